-- What became of an action: live, committed or doomed (Argus Reference Manual 1987, actions).
use Rattle.std.specs.List.{list_any}
use Rattle.std.specs.Prelude.{Bool, List, false, filter, if◌then◌else◌, nat_lt, not, ℕ, ◌&&◌, ◌==◌, ◌||◌}
use Rattle.argus_model.specs.{Ancestors.{begun_by, is_ancestor, parent}, Event.{Aborted, Accessed, Began, Committed}}
use Rattle.argus_model.specs.History.{History, Opened, begun_actions, folded, next_action, ◌▹◌}

-- it began since the opening
abbrev pub is_begun : {V : Type 0} → History V → ℕ → Bool
is_begun h a = nat_lt (folded h) a && nat_lt a (next_action h)

-- its commit is on record
abbrev pub has_committed : {V : Type 0} → History V → ℕ → Bool
has_committed (Opened n) a = false
has_committed (Committed b ▹ older) a = (b == a) || has_committed older a
has_committed (Began from ▹ older) a = has_committed older a
has_committed (Aborted bs ▹ older) a = has_committed older a
has_committed (Accessed b o v ▹ older) a = has_committed older a

-- one that passes the test was aborted
abbrev pub was_aborted : {V : Type 0} → (ℕ → Bool) → History V → Bool
was_aborted test (Opened n) = false
was_aborted test (Aborted bs ▹ older) = list_any test bs || was_aborted test older
was_aborted test (Began from ▹ older) = was_aborted test older
was_aborted test (Committed b ▹ older) = was_aborted test older
was_aborted test (Accessed b o v ▹ older) = was_aborted test older

-- it was aborted, or an ancestor of it was
abbrev pub is_doomed : {V : Type 0} → History V → ℕ → Bool
is_doomed h a = was_aborted (λ x. is_ancestor h x a) h

-- begun, and neither committed nor doomed
abbrev pub is_live : {V : Type 0} → History V → ℕ → Bool
is_live h a = is_begun h a && (not (has_committed h a) && not (is_doomed h a))

-- a live action has it as parent or as creator
abbrev pub has_live_child : {V : Type 0} → History V → ℕ → Bool
has_live_child h a =
    list_any (λ x. is_live h x && (parent h x == a || begun_by h x == a)) (begun_actions h)

-- another action of the same creator; the base isn't one
abbrev pub is_sibling : {V : Type 0} → History V → ℕ → ℕ → Bool
is_sibling h a x = not (x == 0) && (not (x == a) && begun_by h x == begun_by h a)

-- its live siblings, in increasing number
abbrev pub live_siblings : {V : Type 0} → History V → ℕ → List ℕ
live_siblings h a = filter (λ x. is_live h x && is_sibling h a x) (begun_actions h)

-- what became of an action
pub data Status : Type 0 where
  IsLive : Status
  IsCommitted : Status
  IsAborted : Status
  -- before the opening, or not begun
  IsFolded : Status

-- a doomed action counts as aborted, committed or not
abbrev pub status : {V : Type 0} → History V → ℕ → Status
status h a =
    if is_begun h a then
    (if is_doomed h a then IsAborted else if has_committed h a then IsCommitted else IsLive) else
    IsFolded
