-- Whether some ancestor of an action passes a test.
use Rattle.std.proofs.Common.{◌≡◌, ℕ, ◌+◌, ◌<◌, ◌≤◌, Bool, false, eqb, ◌||◌, List, [], ◌∷◌, length, Some, refl, arith}
use Rattle.std.proofs.lemmas.Bool.{Decides.nat_tests, ne_eqb, cond-false}
use Rattle.argus_actions.specs.{Row.{Row, at_parent}, Rows.{numbered, is_above, has_ancestor}, Nodes.AreLinked}
use Rattle.argus_actions.proofs.RowsLemmas.{none_some, begun_before, linked_at, at_parent_between}
use Rattle.argus_actions.proofs.Marks.{at_parent_same}

-- tests that are the same on the rows
pub has_ancestor_same : (s t : ℕ → Bool) (n : ℕ) (rows : List Row) (y : ℕ)
    → ((x : ℕ) → n ≤ x → x < n + length rows → s x ≡ t x)
    → has_ancestor s n rows y ≡ has_ancestor t n rows y
has_ancestor_same s t n [] y same = refl
has_ancestor_same s t n (row ∷ older) y same = grind (arith, nat_tests, at_parent_same, has_ancestor_same s t n older)

-- one that passes either test
pub has_ancestor_or : (s t : ℕ → Bool) (n : ℕ) (rows : List Row) (y : ℕ)
    → has_ancestor (λ x. s x || t x) n rows y ≡ (has_ancestor s n rows y || has_ancestor t n rows y)
has_ancestor_or s t n [] y = refl
has_ancestor_or s t n (row ∷ older) y = grind (arith, nat_tests, has_ancestor_or s t n older)

-- a test that one action alone passes
pub has_ancestor_one : (c n : ℕ) (rows : List Row) (y : ℕ) → has_ancestor (λ x. eqb x c) n rows y ≡ is_above n rows c y
has_ancestor_one c n [] y = refl
has_ancestor_one c n (row ∷ older) y = grind (arith, nat_tests, at_parent_same, has_ancestor_one c n older)

-- a test that fails up to the action
pub has_ancestor_none : (s : ℕ → Bool) (n : ℕ) (rows : List Row) (y : ℕ) → AreLinked n rows
    → ((x : ℕ) → x ≤ y → s x ≡ false) → has_ancestor s n rows y ≡ false
has_ancestor_none s n [] y linked none = refl
has_ancestor_none s n (row ∷ older) y linked none =
    grind (arith, nat_tests, at_parent_between, has_ancestor_none s n older)

-- one step up
pub has_ancestor_step : (s : ℕ → Bool) (n : ℕ) (rows : List Row) (y : ℕ) (row : Row) → AreLinked n rows
    → numbered n rows y ≡ Some row
    → has_ancestor s n rows y ≡ (s y || at_parent false row.origin (has_ancestor s n rows))
has_ancestor_step s n [] y row linked at = elim (none_some row at) [ ]
has_ancestor_step s n (r ∷ older) y row linked at =
    let by_step = has_ancestor_step s n older y row linked.1 in
    grind (arith, nat_tests, linked.0, linked_at n older y row linked.1, begun_before n older y row, by_step)
