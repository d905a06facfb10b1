-- The newest action below a bound that passes a test: what holds of it, and that none between passes.
use Rattle.std.proofs.Common.{◌≡◌, ℕ, ◌+◌, ◌<◌, ◌≤◌, Bool, true, false, ltb, ◌&&◌, List, [], ◌∷◌, length, Some, None}
use Rattle.std.proofs.{Common.arith, lemmas.Bool.Decides.nat_tests}
use Rattle.argus_actions.specs.{declared.origin.Origin.Origin, Row.Row, Rows.{numbered, newest_where, has_origin}}
use Rattle.argus_actions.{specs.Tree.{named, IsGreatestBelow}, proofs.RowsLemmas.{none_some, row_begun}}

none_is_some : (a : ℕ) → None ≡ Some a → ⊥
none_is_some a e = cc

-- it has a row, is below the bound, and passes
pub newest_where_at : (test : Origin → Bool) (n : ℕ) (rows : List Row) (bound c : ℕ)
    → newest_where test n rows bound ≡ Some c
    → (n ≤ c) × ((c < n + length rows) × ((c < bound) × ((row : Row)
    × ((numbered n rows c ≡ Some row) × (test row.origin ≡ true)))))
newest_where_at test n [] bound c e = absurd (none_is_some c e)
newest_where_at test n (row ∷ older) bound c e = grind (arith, nat_tests, newest_where_at test n older bound c)

own_passes : (test : Origin → Bool) (n : ℕ) (r : Row) (older : List Row) (bound k : ℕ) (row : Row)
    → k ≡ n + length older → numbered n (r ∷ older) k ≡ Some row
    → test row.origin ≡ true → k < bound → (ltb (n + length older) bound && test r.origin) ≡ false → ⊥
own_passes test n r older bound k row is at passes below not = grind (arith, nat_tests)

-- one that passes and is below the bound is no newer
pub newest_where_most : (test : Origin → Bool) (n : ℕ) (rows : List Row) (bound c k : ℕ) (row : Row)
    → newest_where test n rows bound ≡ Some c
    → numbered n rows k ≡ Some row → test row.origin ≡ true → k < bound → k ≤ c
newest_where_most test n [] bound c k row e at passes below = absurd (none_some row at)
newest_where_most test n (r ∷ older) bound c k row e at passes below =
    grind (arith, nat_tests, row_begun, own_passes, newest_where_most test n older bound c k row)

-- where there is none, each that passes is at the bound or past it
pub newest_where_no : (test : Origin → Bool) (n : ℕ) (rows : List Row) (bound k : ℕ) (row : Row)
    → newest_where test n rows bound ≡ None
    → numbered n rows k ≡ Some row → test row.origin ≡ true → bound ≤ k
newest_where_no test n [] bound k row e at passes = absurd (none_some row at)
newest_where_no test n (r ∷ older) bound k row e at passes =
    grind (arith, nat_tests, own_passes, newest_where_no test n older bound k row)

-- the row of one that passes
pub came_row : (test : Origin → Bool) (n : ℕ) (rows : List Row) (x : ℕ) → has_origin test n rows x ≡ true
    → (row : Row) × ((numbered n rows x ≡ Some row) × (test row.origin ≡ true))
came_row test n rows x e = grind (arith, nat_tests)

-- so it is the greatest number below the bound that passes
pub newest_where_greatest : (test : Origin → Bool) (n : ℕ) (rows : List Row) (bound : ℕ)
    → IsGreatestBelow bound (has_origin test n rows) (named (newest_where test n rows bound))
newest_where_greatest test n rows bound =
    grind (arith, nat_tests, newest_where_no, came_row, newest_where_at, newest_where_most)
