-- The actions as a list of rows, the newest first: how a tree of actions keeps them.
use Rattle.std.specs.{List.list_any, Prelude.{◌==◌, ◌||◌, ◌∷◌}}
use Rattle.std.specs.Prelude.{Bool, List, None, Option, Some, [], false, if◌then◌else◌, length, true, ℕ, ◌&&◌, ◌+◌}
use Rattle.argus_model.specs.Event.{Aborted, Accessed, Began, Committed, Origin, Top, origin_begun_by, origin_parent}
use Rattle.argus_model.specs.History.{History, Opened, folded, next_action, ◌▹◌}
use Rattle.argus_model.specs.Status.{IsAborted, IsCommitted, IsFolded, IsLive, Status, status}

-- one action: its number is one more than how many are folded or have an older row
pub record Row : Type 0 where
  pub origin : Origin
  pub status : Status

-- how an action came to be
abbrev pub origin : {V : Type 0} → History V → ℕ → Origin
origin (Opened n) a = Top
origin (Began from ▹ older) a = if a == next_action older then from else origin older a
origin (Committed b ▹ older) a = origin older a
origin (Aborted bs ▹ older) a = origin older a
origin (Accessed b o v ▹ older) a = origin older a

-- what the history says of an action
abbrev pub row_of : {V : Type 0} → History V → ℕ → Row
row_of h a = record { origin = origin h a; status = status h a }

-- the row of a number, if n actions are folded
abbrev pub row_at : ℕ → List Row → ℕ → Option Row
row_at n [] a = None
row_at n (row ∷ older) a = if a == n + length older + 1 then Some row else row_at n older a

-- the row, with another status
abbrev pub with_status : Status → Row → Row
with_status s row = record { origin = row.origin; status = s }

-- the rows, with this status in those whose numbers pass the test
abbrev pub mark : ℕ → (ℕ → Bool) → Status → List Row → List Row
mark n test s [] = []
mark n test s (row ∷ older) =
    (if test (n + length older + 1) then with_status s row else row) ∷ mark n test s older

-- x is y, or above its parent; false if either has no row
abbrev pub is_above : ℕ → List Row → ℕ → ℕ → Bool
is_above n [] x y = false
is_above n (row ∷ older) x y =
    if y == n + length older + 1 then (x == y || is_above n older x (origin_parent row.origin)) else
    is_above n older x y

-- how many actions it takes from a number up to its topaction, both counted; 0 if it has no row
abbrev pub depth_at : ℕ → List Row → ℕ → ℕ
depth_at n [] a = 0
depth_at n (row ∷ older) a =
    if a == n + length older + 1 then depth_at n older (origin_parent row.origin) + 1 else
    depth_at n older a

-- the rows after each event: a commit marks one, an abort all those under the ones that it names
abbrev pub rows : {V : Type 0} → History V → List Row
rows (Opened n) = []
rows (Began from ▹ older) = record { origin = from; status = IsLive } ∷ rows older
rows (Committed a ▹ older) = mark (folded older) (λ x. x == a) IsCommitted (rows older)
rows (Aborted actions ▹ older) =
    mark (folded older) (λ x. list_any (λ a. is_above (folded older) (rows older) a x) actions)
    IsAborted (rows older)
rows (Accessed a o v ▹ older) = rows older

-- the status of a live action
abbrev pub is_live_status : Status → Bool
is_live_status IsLive = true
is_live_status IsCommitted = false
is_live_status IsAborted = false
is_live_status IsFolded = false

-- a row of this parent or creator is live
abbrev pub has_live_row : List Row → ℕ → Bool
has_live_row [] a = false
has_live_row (row ∷ older) a =
    (is_live_status row.status && (origin_parent row.origin == a || origin_begun_by row.origin
    == a))
    || has_live_row older a
