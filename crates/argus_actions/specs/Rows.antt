-- The actions as a list of rows, newest first. The number of a row is how many actions are folded
-- or older.
use Rattle.std.specs.Prelude.{◌≡◌, ℕ, ◌+◌, Bool, true, false, not, ◌&&◌, ◌||◌, ◌==◌, nat_lt, if◌then◌else◌, List, []}
use Rattle.std.specs.{Prelude.{◌∷◌, length, Option, Some, None}, List.list_any, Option.{option_and_then, option_map_or}}
use Rattle.argus_actions.specs.{declared.origin.Origin.Origin, declared.origin.Origin.TheVariants.Sub, Row.with_status}
use Rattle.argus_actions.specs.declared.status.Status.{Status}
use Rattle.argus_actions.specs.Row.{Row, may_follow, at_parent, under_of, is_sub_of, is_begun_under, is_live}

-- the row of a number
abbrev pub numbered : ℕ → List Row → ℕ → Option Row
numbered folded [] a = None
numbered folded (row ∷ older) a =
    if a == folded + length older then Some row else numbered folded older a

-- x is y, or an ancestor of the parent of y (Moss, Nested Transactions, 1981; Argus Reference
-- Manual, 1987)
abbrev pub is_above : ℕ → List Row → ℕ → ℕ → Bool
is_above folded [] x y = false
is_above folded (row ∷ older) x y =
    if y == folded + length older then (x == y || at_parent false row.origin
    (is_above folded older x)) else is_above folded older x y

-- how many ancestors an action has, itself included
abbrev pub depth_at : ℕ → List Row → ℕ → ℕ
depth_at folded [] a = 0
depth_at folded (row ∷ older) a =
    if a == folded + length older then at_parent 0 row.origin (depth_at folded older) + 1 else
    depth_at folded older a

-- a live action was begun under this one, as its subaction or as its nested topaction
abbrev pub is_live_under : List Row → ℕ → Bool
is_live_under rows a = list_any (λ row. is_begun_under a row.origin && is_live row.status) rows

-- how many live actions were begun under this one, as its subactions or as its nested topactions
abbrev pub live_count : List Row → ℕ → ℕ
live_count [] a = 0
live_count (row ∷ older) a =
    (if is_begun_under a row.origin && is_live row.status then 1 else 0) + live_count older a

-- the rows with the status of some of them changed
abbrev pub mark : ℕ → (ℕ → Bool) → Status → List Row → List Row
mark folded which status [] = []
mark folded which status (row ∷ older) =
    (if which (folded + length older) then with_status status row else row)
    ∷ mark folded which status older

-- the newest action below the bound whose origin passes the test
abbrev pub newest_where : (Origin → Bool) → ℕ → List Row → ℕ → Option ℕ
newest_where test folded [] bound = None
newest_where test folded (row ∷ older) bound =
    if nat_lt (folded + length older) bound && test row.origin then Some
    (folded + length older) else newest_where test folded older bound

-- the newest subaction of the parent whose number is below the bound
abbrev pub newest_below : ℕ → List Row → ℕ → ℕ → Option ℕ
newest_below folded rows parent bound = newest_where (is_sub_of parent) folded rows bound

-- the newest action below the bound that was begun under this one
abbrev pub newest_child_below : ℕ → List Row → ℕ → ℕ → Option ℕ
newest_child_below folded rows a bound = newest_where (is_begun_under a) folded rows bound

-- the parent or creator of the action of a number
abbrev pub under_at : ℕ → List Row → ℕ → Option ℕ
under_at folded rows a = option_and_then (λ row. under_of row.origin) (numbered folded rows a)

-- the action of this number is live
abbrev pub is_live_at : ℕ → List Row → ℕ → Bool
is_live_at folded rows a = option_map_or (λ row. is_live row.status) (numbered folded rows a) false

-- the action of a number has an origin that passes the test
abbrev pub has_origin : (Origin → Bool) → ℕ → List Row → ℕ → Bool
has_origin test folded rows x = option_map_or (λ row. test row.origin)
    (numbered folded rows x) false

-- x was begun under this action, as its subaction
abbrev pub is_sub_at : ℕ → List Row → ℕ → ℕ → Bool
is_sub_at folded rows parent x = has_origin (is_sub_of parent) folded rows x

-- x was begun under this action, as its subaction or as its nested topaction
abbrev pub is_child_of : ℕ → List Row → ℕ → ℕ → Bool
is_child_of folded rows under x = has_origin (is_begun_under under) folded rows x

-- x is another action with the same parent or creator as a: a subaction and a nested topaction of
-- one action are siblings
abbrev pub is_sibling_of : ℕ → List Row → ℕ → ℕ → Bool
is_sibling_of folded rows a x = not (x == a) && option_map_or
    (λ under. is_child_of folded rows under x) (under_at folded rows a) false

-- x is live, and a sibling of a
abbrev pub is_live_sibling_of : ℕ → List Row → ℕ → ℕ → Bool
is_live_sibling_of folded rows a x = is_live_at folded rows x && is_sibling_of folded rows a x

-- some ancestor of y passes the test
abbrev pub has_ancestor : (ℕ → Bool) → ℕ → List Row → ℕ → Bool
has_ancestor test folded [] y = false
has_ancestor test folded (row ∷ older) y =
    if y == folded + length older then (test y || at_parent false row.origin
    (has_ancestor test folded older)) else has_ancestor test folded older y

-- each subaction is over no later than its parent
abbrev pub AreInStep : ℕ → List Row → Type 0
AreInStep folded rows = (a p : ℕ) (row above : Row)
    → numbered folded rows a ≡ Some row → row.origin ≡ Sub p → numbered folded rows p ≡ Some above
    → may_follow above.status row.status ≡ true
