-- A history: what happened since an opening, newest first.
use Rattle.std.specs.Prelude.{List, [], ℕ, ◌++◌, ◌+◌, ◌∷◌, ◌≡◌}
use Rattle.argus_model.specs.Event.{Aborted, Accessed, Began, Committed, Event, Origin}

-- Where a history begins. What went before is folded into it: the contents stay, the actions are
-- over and forgotten.
pub record HistoryOpening (C : Type 0) : Type 0 where
  -- what each object holds
  pub contents : ℕ → C
  -- how many actions are folded: those with the numbers 1 to first_action
  pub first_action : ℕ
  -- how many entries of the journal are folded; no law uses it
  pub first_entry : ℕ

-- after an opening with this many folded actions, each event with all that went before it
infixr 67 ◌▹◌
pub data History (V : Type 0) : Type 0 where
  Opened : (first_action : ℕ) → History V
  ◌▹◌ : Event V → History V → History V

-- how many actions were folded
abbrev pub folded : {V : Type 0} → History V → ℕ
folded (Opened n) = n
folded (e ▹ older) = folded older

-- the number that the next action gets: one more than the last
abbrev pub next_action : {V : Type 0} → History V → ℕ
next_action (Opened n) = n + 1
next_action (Began from ▹ older) = next_action older + 1
next_action (Committed a ▹ older) = next_action older
next_action (Aborted actions ▹ older) = next_action older
next_action (Accessed a o v ▹ older) = next_action older

-- the actions that began since the opening, in increasing number
abbrev pub begun_actions : {V : Type 0} → History V → List ℕ
begun_actions (Opened n) = []
begun_actions (Began from ▹ older) = begun_actions older ++ next_action older ∷ []
begun_actions (Committed a ▹ older) = begun_actions older
begun_actions (Aborted actions ▹ older) = begun_actions older
begun_actions (Accessed a o v ▹ older) = begun_actions older

-- these events, oldest first, after the history
abbrev pub followed_by : {V : Type 0} → History V → List (Event V) → History V
followed_by h [] = h
followed_by h (e ∷ later) = followed_by (e ▹ h) later

-- the event by which the action began, with what went before it and what came after
pub record ItsBegin {V : Type 0} (h : History V) (a : ℕ) : Type 0 where
  pub older : History V
  pub from : Origin
  pub later : List (Event V)
  pub is : h ≡ followed_by (Began from ▹ older) later
  pub number : a ≡ next_action older
