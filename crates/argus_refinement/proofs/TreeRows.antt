-- The rows of a tree, in the terms of the history: each test of them, number by number.
use Rattle.std.proofs.Common.{Bool, List, Option, Some, [], ap, arith, cond, false, length, refl, true, ℕ, ◌+◌, ◌∙◌}
use Rattle.std.proofs.{Common.{◌∷◌, ◌≡◌, eqb, ◌||◌}, lemmas.{Bool.{Decides.nat_tests, false≢true}, List.length-map}}
use Rattle.std.specs.{Option.option_map, Prelude.map}
use Rattle.argus_refinement.specs.TreeRefinement.{history_origin, history_row, history_status}
use Rattle.argus_model.specs.{Event.{origin_begun_by, origin_parent}, Rows.{Row, depth_at, has_live_row, is_above}}
use Rattle.argus_model.specs.Rows.{is_live_status, mark, row_at}
use Rattle.argus_actions.specs.Row as tree_row
use Rattle.argus_actions.specs.Rows as tree_rows
use Rattle.argus_actions.specs.declared.origin.Origin as tree_origin
use Rattle.argus_actions.specs.declared.status.Status as tree_status

-- numbers are equal where they are one higher
pub eqb_up : (x y : ℕ) → eqb (x + 1) (y + 1) ≡ eqb x y
eqb_up x y = grind (arith, nat_tests)

-- the row that counts as the newest, in both words
newest_up : (n : ℕ) (rs : List tree_row.Row) (y : ℕ) → eqb (y + 1) (n + length (map history_row rs) + 1)
    ≡ eqb y (n + length rs)
newest_up n rs y = ap (λ k. eqb (y + 1) (n + k + 1)) (length-map rs history_row) ∙ eqb_up y (n + length rs)

-- the base has no row
no_base : (n : ℕ) (rs : List tree_row.Row) (x : ℕ) → is_above n (map history_row rs) x 0 ≡ false
no_base n [] x = refl
no_base n (r ∷ rs) x = grind (arith, nat_tests, no_base n rs x)

no_base_depth : (n : ℕ) (rs : List tree_row.Row) → depth_at n (map history_row rs) 0 ≡ 0
no_base_depth n [] = refl
no_base_depth n (r ∷ rs) = grind (arith, nat_tests, no_base_depth n rs)

-- what is so of the parent's number is so of the parent
at_parent_said : {X : Type 0} (none : X) (f : ℕ → X) (g : ℕ → X) (o : tree_origin.Origin) → f 0 ≡ none
    → ((p : ℕ) → f (p + 1) ≡ g p) → f (origin_parent (history_origin o)) ≡ tree_row.at_parent none o g
at_parent_said none f g o z k = grind (arith)

-- ancestors
pub above_said : (n : ℕ) (rs : List tree_row.Row) (x y : ℕ)
    → is_above n (map history_row rs) (x + 1) (y + 1) ≡ tree_rows.is_above n rs x y
above_said n [] x y = refl
above_said n (r ∷ rs) x y = grind (arith, nat_tests, newest_up, eqb_up, at_parent_said, no_base, above_said n rs x)

-- depth
pub depth_said : (n : ℕ) (rs : List tree_row.Row) (y : ℕ)
    → depth_at n (map history_row rs) (y + 1) ≡ tree_rows.depth_at n rs y
depth_said n [] y = refl
depth_said n (r ∷ rs) y = grind (arith, nat_tests, newest_up, at_parent_said, no_base_depth, depth_said n rs)

-- rows that get another status
pub mark_said : (n : ℕ) (test test' : ℕ → Bool) (st : tree_status.Status) (rs : List tree_row.Row)
    → ((k : ℕ) → test (k + 1) ≡ test' k) → map history_row (tree_rows.mark n test' st rs)
    ≡ mark n test (history_status st) (map history_row rs)
mark_said n test test' st [] f = refl
mark_said n test test' st (r ∷ rs) f = grind (arith, nat_tests, length-map, mark_said n test test' st rs f)

some_said : (b : Bool) (r : tree_row.Row) (o : Option tree_row.Row)
    → cond b (Some (history_row r)) (option_map history_row o) ≡ option_map history_row (cond b (Some r) o)
some_said b r o = grind (arith, nat_tests)

-- the row of a number
pub row_at_said : (n : ℕ) (rs : List tree_row.Row) (a : ℕ)
    → row_at n (map history_row rs) (a + 1) ≡ option_map history_row (tree_rows.numbered n rs a)
row_at_said n [] a = refl
row_at_said n (r ∷ rs) a = grind (arith, nat_tests, newest_up, some_said, row_at_said n rs a)

-- whether a row is live
pub live_said : (st : tree_status.Status) → is_live_status (history_status st) ≡ tree_row.is_live st
live_said st = grind (arith, nat_tests)

-- begun under an action, by the creator's number
pub under_said : (o : tree_origin.Origin) (a : ℕ) → eqb (origin_begun_by (history_origin o)) (a + 1)
    ≡ tree_row.is_begun_under a o
under_said o a = grind (arith, nat_tests)

-- begun under an action, by the parent's number or the creator's
from_said : (o : tree_origin.Origin) (a : ℕ) → (eqb (origin_parent (history_origin o)) (a + 1)
    || eqb (origin_begun_by (history_origin o)) (a + 1)) ≡ tree_row.is_begun_under a o
from_said o a = grind (arith, nat_tests)

-- live children
pub live_row_said : (rs : List tree_row.Row) (a : ℕ) → has_live_row (map history_row rs) (a + 1)
    ≡ tree_rows.is_live_under rs a
live_row_said [] a = refl
live_row_said (r ∷ rs) a = grind (arith, nat_tests, live_said, from_said, live_row_said rs a)

-- an ancestor that passes a test
pub ancestor_from : (test : ℕ → Bool) (n : ℕ) (rs : List tree_row.Row) (x y : ℕ) → test x ≡ true
    → tree_rows.is_above n rs x y ≡ true → tree_rows.has_ancestor test n rs y ≡ true
ancestor_from test n [] x y t up = absurd (false≢true up)
ancestor_from test n (r ∷ rs) x y t up = grind (arith, nat_tests, ancestor_from test n rs x)

-- the ancestor that passes the test
pub ancestor_found : (test : ℕ → Bool) (n : ℕ) (rs : List tree_row.Row) (y : ℕ)
    → tree_rows.has_ancestor test n rs y ≡ true → (x : ℕ) × (test x ≡ true) × (tree_rows.is_above n rs x y ≡ true)
ancestor_found test n [] y e = absurd (false≢true e)
ancestor_found test n (r ∷ rs) y e = grind (arith, nat_tests, ancestor_found test n rs)
