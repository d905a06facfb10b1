-- A content that fits keeps the limits, and so does one that a suitable change creates.
use Rattle.std.proofs.{Common.{◌≡◌, ℕ, ◌≤◌, ℤ, ◌≤ℤ◌, Bool, true, false, not, nat_le, refl, arith}, lemmas.Bool.and_from}
use Rattle.std.proofs.{lemmas.Int.ints, lemmas.Bool.Decides.nat_tests}
use Rattle.std.specs.Prelude.{int_lt, ◌&&◌}
use Rattle.argus_contents.specs.{Content.{KeepsBounds, is_within}, Place.high_of}
use Rattle.argus_contents.specs.declared.limits.TheConstants.{MIN_BOUND, MAX_BOUND, MAX_ITEMS}
use Rattle.argus_contents.specs.Shape as shape

both_left : (a b : Bool) → (a && b) ≡ true → a ≡ true
both_left true b e = refl
both_left false b e = e

both_right : (a b : Bool) → (a && b) ≡ true → b ≡ true
both_right true b e = e
both_right false b e = absurd (cc)

not_below : (a b : ℤ) → not (int_lt a b) ≡ true → b ≤ℤ a
not_below a b e = let f : int_lt a b ≡ false = other (int_lt a b) e in grind (arith, ints)
  where
    other : (t : Bool) → not t ≡ true → t ≡ false
    other false h = refl
    other true h = absurd (cc)

at_most : (m n : ℕ) → nat_le m n ≡ true → m ≤ n
at_most m n e = grind (arith, nat_tests)

-- an array that passes the test keeps the limits
pub within_keeps : (low : ℤ) (size : ℕ) → is_within low size ≡ true → KeepsBounds low size
within_keeps low size e =
    let front = both_left _ (not (int_lt MAX_BOUND (high_of low size)) && nat_le size MAX_ITEMS) e in
    let back = both_right (not (int_lt low MIN_BOUND) && not (int_lt MAX_BOUND low)) _ e in
    let high = not_below MAX_BOUND (high_of low size) (both_left _ (nat_le size MAX_ITEMS) back) in
    record {
      from = not_below low MIN_BOUND (both_left _ (not (int_lt MAX_BOUND low)) front);
      to = not_below MAX_BOUND low (both_right (not (int_lt low MIN_BOUND)) _ front);
      high = omega (arith, ints);
      items = at_most size MAX_ITEMS (both_right (not (int_lt MAX_BOUND (high_of low size))) _ back);
    }

below_not : (a b : ℤ) → b ≤ℤ a → not (int_lt a b) ≡ true
below_not a b e = grind (arith, ints)

most_at : (m n : ℕ) → m ≤ n → nat_le m n ≡ true
most_at m n e = grind (arith, nat_tests)

-- an array that keeps the limits passes the test
pub keeps_within : (low : ℤ) (size : ℕ) → KeepsBounds low size → is_within low size ≡ true
keeps_within low size k =
    let a = not (int_lt low MIN_BOUND) in
    let b = not (int_lt MAX_BOUND low) in
    let c = not (int_lt MAX_BOUND (high_of low size)) in
    let d = nat_le size MAX_ITEMS in
    let high = k.high in
    and_from (a && b) (c && d)
    (and_from a b (below_not low MIN_BOUND k.from) (below_not MAX_BOUND low k.to))
    (and_from c d (below_not MAX_BOUND (high_of low size) (omega (arith, ints))) (most_at size MAX_ITEMS k.items))
