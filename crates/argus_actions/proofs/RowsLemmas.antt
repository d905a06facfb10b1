-- Rows by number, and the ancestors of an action.
use Rattle.std.proofs.Common.{◌≡◌, ◌≢◌, ℕ, ◌+◌, ◌<◌, ◌≤◌, false, eqb, ◌||◌, List, [], ◌∷◌, length, Some, None, refl}
use Rattle.std.proofs.{Common.{sym, ◌∙◌, ap, arith, inl, inr}, lemmas.Bool.{Decides.nat_tests, eq-eqb, ne_eqb}}
use Rattle.std.proofs.lemmas.Bool.{cond-true, cond-false, cases_eq}
use Rattle.argus_actions.specs.{declared.origin.Origin.Origin, Row.{Row, at_parent}, Rows.{numbered, is_above}}
use Rattle.argus_actions.specs.{Rows.depth_at, Nodes.{IsBegunBetween, AreLinked}}

pub some_row : (x y : Row) → Some x ≡ Some y → x ≡ y
some_row x y e = cc

pub numbered_newest : (n : ℕ) (row : Row) (older : List Row) (a : ℕ) → a ≡ n + length older
    → numbered n (row ∷ older) a ≡ Some row
numbered_newest n row older a e = cond-true _ _ _ (eq-eqb a (n + length older) e)

pub numbered_older : (n : ℕ) (row : Row) (older : List Row) (a : ℕ) → a ≢ n + length older
    → numbered n (row ∷ older) a ≡ numbered n older a
numbered_older n row older a ne = cond-false _ _ _ (ne_eqb a (n + length older) ne)

-- no row has a number below the first, or past the newest
pub numbered_past : (n : ℕ) (rows : List Row) (a : ℕ) → n + length rows ≤ a → numbered n rows a ≡ None
numbered_past n [] a past = refl
numbered_past n (row ∷ older) a past =
    numbered_older n row older a (λ e. omega arith) ∙ numbered_past n older a (omega arith)

pub none_some : (r : Row) → None ≡ Some r → ⊥
none_some r e = cc

pub numbered_low : (n : ℕ) (rows : List Row) (a : ℕ) → a < n → numbered n rows a ≡ None
numbered_low n [] a low = refl
numbered_low n (row ∷ older) a low = numbered_older n row older a (λ e. omega arith) ∙ numbered_low n older a low

-- a row that is there has a number before the next
pub begun_before : (n : ℕ) (rows : List Row) (a : ℕ) (row : Row) → numbered n rows a ≡ Some row → n + length rows ≤ a
    → ⊥
begun_before n rows a row at past = none_some row (sym (numbered_past n rows a past) ∙ at)

-- a row has a number from the first on, and before the next
pub row_begun : (n : ℕ) (rows : List Row) (a : ℕ) (row : Row) → numbered n rows a ≡ Some row
    → (n ≤ a) × (a < n + length rows)
row_begun n rows a row at = grind (arith, numbered_low n rows a, begun_before n rows a row at)

-- and each such number has a row
pub row_there : (n : ℕ) (rows : List Row) (a : ℕ) → n ≤ a → a < n + length rows
    → (row : Row) × (numbered n rows a ≡ Some row)
row_there n [] a low below = absurd (omega arith)
row_there n (r ∷ older) a low below =
    elim (cases_eq a (n + length older)) [
      | inl e ↦ (r, numbered_newest n r older a e)
      | inr ne ↦ grind (arith, nat_tests, row_there n older a low)
    ]

-- two lists of rows with the same row at each number
pub same_numbered : (n : ℕ) (xs ys : List Row) → length xs ≡ length ys
    → ((a : ℕ) → n ≤ a → a < n + length xs → numbered n xs a ≡ numbered n ys a) → xs ≡ ys
same_numbered n [] [] e same = refl
same_numbered n [] (y ∷ ys) e same = absurd (omega arith)
same_numbered n (x ∷ xs) [] e same = absurd (omega arith)
same_numbered n (x ∷ xs) (y ∷ ys) e same =
    let e' : length xs ≡ length ys = omega arith in
    let newest : x ≡ y = some_row x y (sym (numbered_newest n x xs (n + length xs) refl)
    ∙ (same (n + length xs) (omega arith) (omega arith)
    ∙ numbered_newest n y ys (n + length xs) (ap (λ k. n + k) e'))) in
    let others : xs ≡ ys = same_numbered n xs ys e' (λ a low below. grind (arith, nat_tests)) in
    cc

pub at_parent_between : {X : Type 0} (none : X) (low high : ℕ) (o : Origin) (f g : ℕ → X) → IsBegunBetween low high o
    → ((p : ℕ) → low ≤ p → p < high → f p ≡ g p) → at_parent none o f ≡ at_parent none o g
at_parent_between none low high o f g between same = grind (arith)

-- each action was begun under an older one
pub linked_at : (n : ℕ) (rows : List Row) (a : ℕ) (row : Row) → AreLinked n rows → numbered n rows a ≡ Some row
    → IsBegunBetween n a row.origin
linked_at n [] a row linked at = elim (none_some row at) [ ]
linked_at n (r ∷ older) a row linked at = grind (arith, nat_tests, linked_at n older a row linked.1)

pub is_above_older : (n : ℕ) (row : Row) (older : List Row) (x y : ℕ) → y ≢ n + length older
    → is_above n (row ∷ older) x y ≡ is_above n older x y
is_above_older n row older x y ne = cond-false _ _ _ (ne_eqb y (n + length older) ne)

-- one step up
pub is_above_step : (n : ℕ) (rows : List Row) (x y : ℕ) (row : Row) → AreLinked n rows → numbered n rows y ≡ Some row
    → is_above n rows x y ≡ (eqb x y || at_parent false row.origin (is_above n rows x))
is_above_step n [] x y row linked at = elim (none_some row at) [ ]
is_above_step n (r ∷ older) x y row linked at =
    let by_step = is_above_step n older x y row linked.1 in
    grind (arith, nat_tests, linked.0, linked_at n older y row linked.1, row_begun n older y row, by_step)

pub depth_at_older : (n : ℕ) (row : Row) (older : List Row) (y : ℕ) → y ≢ n + length older
    → depth_at n (row ∷ older) y ≡ depth_at n older y
depth_at_older n row older y ne = cond-false _ _ _ (ne_eqb y (n + length older) ne)

-- an action is one of its ancestors
pub depth_at_least : (n : ℕ) (rows : List Row) (y : ℕ) (row : Row) → numbered n rows y ≡ Some row
    → 1 ≤ depth_at n rows y
depth_at_least n [] y row at = elim (none_some row at) [ ]
depth_at_least n (r ∷ older) y row at = grind (arith, nat_tests, depth_at_least n older y row)

-- the ancestors of an action are no newer than it
pub is_above_newer : (n : ℕ) (rows : List Row) (x y : ℕ) → AreLinked n rows → y < x → is_above n rows x y ≡ false
is_above_newer n [] x y linked newer = refl
is_above_newer n (r ∷ older) x y linked newer = grind (arith, nat_tests, at_parent_between, is_above_newer n older x)

-- an action that was not begun has no ancestor
pub is_above_past : (n : ℕ) (rows : List Row) (x y : ℕ) → n + length rows ≤ y → is_above n rows x y ≡ false
is_above_past n [] x y past = refl
is_above_past n (r ∷ older) x y past =
    is_above_older n r older x y (λ e. omega arith) ∙ is_above_past n older x y (omega arith)

pub is_above_low : (n : ℕ) (rows : List Row) (x y : ℕ) → y < n → is_above n rows x y ≡ false
is_above_low n [] x y low = refl
is_above_low n (r ∷ older) x y low = is_above_older n r older x y (λ e. omega arith) ∙ is_above_low n older x y low
