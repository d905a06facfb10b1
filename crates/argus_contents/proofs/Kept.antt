-- What a change leaves keeps the limits.
use Rattle.std.proofs.Common.{◌≡◌, ℕ, ◌<◌, ◌≤◌, ◌-◌, ℤ, pos, negsuc, ◌+ℤ◌, ◌-ℤ◌, ◌≤ℤ◌, List, [], ◌∷◌, length, take}
use Rattle.std.proofs.Common.{drop, Option, Some, None, Bool, true, false, refl, arith, nat_lt, nat_le, length-append}
use Rattle.std.proofs.{Common.{length-take, length-drop, sym}, lemmas.Int.{ints, by_lt_z}, Math.ListN.length-set}
use Rattle.std.proofs.lemmas.Bool.Decides.{nat_tests, not_from_Decides, Decides-int_eq}
use Rattle.std.proofs.lemmas.Bool.{false_from_ne_true}
use Rattle.std.specs.{Prelude.{int_lt, unsigned_abs, ◌||◌, if◌then◌else◌}, Ordering.int_eq}
use Rattle.argus_contents.specs.{Value.PlainValue, Content.{PlainContent, rec, arr, var, KeepsBounds, KeepsLimits}}
use Rattle.argus_contents.specs.Change.{PlainChange, Outcome, outcome, array_outcome, CreatesWithin, stored_at, touch}
use Rattle.argus_contents.specs.Change.{removed_low, is_full_high, is_full_low, is_out_of_limits, trim_refusal, trimmed}
use Rattle.argus_contents.specs.Change.{create, set_field, store, addh, addl, remh, reml, set_low, trim, change_tag}
use Rattle.argus_contents.specs.{Place.{place_of, high_of}, declared.signal.Signal.Signal}
use Rattle.argus_contents.specs.declared.limits.TheConstants.{MIN_BOUND, MAX_BOUND, MAX_ITEMS}
use Rattle.argus_contents.specs.declared.signal.Signal.TheVariants.{Bounds, Limits, NegativeSize}

-- a choice has a property where each of its arms has
by_if : {A : Type 0} (P : A → Type 0) (b : Bool) (x y : A) → (b ≡ true → P x) → (b ≡ false → P y)
    → P (if b then x else y)
by_if P true x y t f = t refl
by_if P false x y t f = f refl

abbrev Keeps : Outcome → Type 0
Keeps o = KeepsLimits o.0

neither_left : (a b : Bool) → (a || b) ≡ false → a ≡ false
neither_left false b e = refl
neither_left true b e = e

neither_right : (a b : Bool) → (a || b) ≡ false → b ≡ false
neither_right false b e = e
neither_right true b e = absurd (cc)

not_below : (a b : ℤ) → int_lt a b ≡ false → b ≤ℤ a
not_below a b e = grind (arith, ints)

not_full : (m n : ℕ) → nat_le m n ≡ false → n < m
not_full m n e = grind (arith, nat_tests)

other : (a b : ℤ) → b ≤ℤ a → int_eq a b ≡ false → (b +ℤ pos 1) ≤ℤ a
other a b h e =
    let differ : ¬ (a ≡ b) = not_from_Decides (int_eq a b) (Decides-int_eq a b) e in
    by_lt_z a (b +ℤ pos 1) (λ below. let same : a ≡ b = omega (arith, ints) in absurd (differ same)) (λ above. above)

abs_of : (z : ℤ) → pos 0 ≤ℤ z → pos (unsigned_abs z) ≡ z
abs_of (pos n) h = refl
abs_of (negsuc n) h = absurd (omega (arith, ints))

at_other : (a b : ℤ) → int_eq a b ≡ false → int_eq b a ≡ false
at_other a b e =
    let differ : ¬ (a ≡ b) = not_from_Decides (int_eq a b) (Decides-int_eq a b) e in
    false_from_ne_true (int_eq b a) (λ same. differ (sym ((Decides-int_eq b a).0 same)))

stored_keeps : (place : Option ℕ) (v : PlainValue) (low : ℤ) (vs : List PlainValue) → KeepsBounds low (length vs)
    → Keeps (stored_at place v low vs)
stored_keeps None v low vs k = k
stored_keeps (Some place) v low vs k = rw (length-set vs place v) k

addh_keeps : (v : PlainValue) (low : ℤ) (vs : List PlainValue) → KeepsBounds low (length vs)
    → Keeps (array_outcome (addh v) low vs)
addh_keeps v low vs k = by_if Keeps (is_full_high low (length vs)) _ _ (λ e. k) (λ e.
    let room : length vs < MAX_ITEMS = not_full _ _ (neither_left (nat_le MAX_ITEMS (length vs)) _ e) in
    let high = not_below MAX_BOUND (low +ℤ pos (length vs)) (neither_right (nat_le MAX_ITEMS (length vs)) _ e) in
    let size = length-append vs (v ∷ []) in
    record { from = k.from; to = k.to; high = omega (arith, ints); items = omega arith })

addl_keeps : (v : PlainValue) (low : ℤ) (vs : List PlainValue) → KeepsBounds low (length vs)
    → Keeps (array_outcome (addl v) low vs)
addl_keeps v low vs k = by_if Keeps (is_full_low low (length vs)) _ _ (λ e. k) (λ e.
    let room : length vs < MAX_ITEMS = not_full _ _ (neither_left (nat_le MAX_ITEMS (length vs)) _ e) in
    let above = other low MIN_BOUND k.from (neither_right (nat_le MAX_ITEMS (length vs)) _ e) in
    let from = k.from in
    let to = k.to in
    let high = k.high in
    record { from = omega (arith, ints); to = omega (arith, ints); high = omega (arith, ints); items = omega arith })

remh_keeps : (low : ℤ) (vs : List PlainValue) → KeepsBounds low (length vs) → Keeps (array_outcome remh low vs)
remh_keeps low vs k =
    let size : length (take (length vs - 1) vs) ≤ length vs = omega (arith, length-take (length vs - 1) vs) in
    let high = k.high in
    let items = k.items in
    record { from = k.from; to = k.to; high = omega (arith, ints); items = omega arith }

reml_keeps : (low : ℤ) (vs : List PlainValue) → KeepsBounds low (length vs) → Keeps (removed_low low vs)
reml_keeps low [] k = k
reml_keeps low (v ∷ vs) k = by_if Keeps (int_eq low MAX_BOUND) _ _ (λ e. k) (λ e.
    let below = other MAX_BOUND low k.to (at_other low MAX_BOUND e) in
    let from = k.from in
    let high = k.high in
    let items = k.items in
    record { from = omega (arith, ints); to = omega (arith, ints); high = omega (arith, ints); items = omega arith })

set_low_keeps : (i low : ℤ) (vs : List PlainValue) → KeepsBounds low (length vs)
    → Keeps (array_outcome (set_low i) low vs)
set_low_keeps i low vs k = by_if Keeps (is_out_of_limits i (length vs)) _ _ (λ e. k) (λ e.
    let from = not_below i MIN_BOUND (neither_left (int_lt i MIN_BOUND) _
    (neither_left (int_lt i MIN_BOUND || int_lt MAX_BOUND i) _ e)) in
    let to = not_below MAX_BOUND i (neither_right (int_lt i MIN_BOUND) _
    (neither_left (int_lt i MIN_BOUND || int_lt MAX_BOUND i) _ e)) in
    let high =
    not_below MAX_BOUND (high_of i (length vs)) (neither_right (int_lt i MIN_BOUND || int_lt MAX_BOUND i) _ e) in
    record { from = from; to = to; high = omega (arith, ints); items = k.items })

trim_size : (count k : ℕ) (vs : List PlainValue) → length (take count (drop k vs)) ≤ length vs - k
trim_size count k vs = omega (arith, length-take count (drop k vs), length-drop k vs)

-- a trim begins at one of the items or just behind them, and at a bound
record CanTrim (from low : ℤ) (size : ℕ) : Type 0 where
  pub from_low : low ≤ℤ from
  pub to_end : from ≤ℤ (low +ℤ pos size)
  pub to_bound : from ≤ℤ MAX_BOUND

-- where nothing refuses the trim, it can be made
abbrev IsFine : (from count low : ℤ) → ℕ → Option Signal → Type 0
IsFine from count low size why = why ≡ None → CanTrim from low size

refused : (from count low : ℤ) (size : ℕ) (why : Signal) → IsFine from count low size (Some why)
refused from count low size why n = absurd (cc)

can_trim : (from count low : ℤ) (size : ℕ) → trim_refusal from count low size ≡ None → CanTrim from low size
can_trim from count low size =
    let P = IsFine from count low size in
    let no = refused from count low size in
    by_if P (int_lt count (pos 0)) _ _ (λ e. no NegativeSize) (λ e.
    by_if P (int_lt from low || int_lt (low +ℤ pos size) from) _ _ (λ o. no Bounds) (λ o.
    by_if P (int_lt MAX_BOUND from) _ _ (λ m. no Limits) (λ m n.
    record {
      from_low = not_below from low (neither_left (int_lt from low) _ o);
      to_end = not_below (low +ℤ pos size) from (neither_right (int_lt from low) _ o);
      to_bound = not_below MAX_BOUND from m;
    })))

trimmed_keeps : (why : Option Signal) (from count low : ℤ) (vs : List PlainValue)
    → trim_refusal from count low (length vs) ≡ why → KeepsBounds low (length vs)
    → Keeps (trimmed why from count low vs)
trimmed_keeps (Some why) from count low vs e k = k
trimmed_keeps None from count low vs e k =
    let c = can_trim from count low (length vs) e in
    let size = trim_size (unsigned_abs count) (unsigned_abs (from -ℤ low)) vs in
    let place : pos (unsigned_abs (from -ℤ low)) ≡ (from -ℤ low) =
    abs_of (from -ℤ low) (omega (arith, ints, c.from_low)) in
    record {
      from = omega (arith, ints, k.from, c.from_low);
      to = c.to_bound;
      high = omega (arith, ints, k.high, c.to_end);
      items = omega (arith, k.items);
    }

-- what a change of an array leaves keeps the limits
pub array_keeps : (c : PlainChange) (low : ℤ) (vs : List PlainValue) → KeepsBounds low (length vs)
    → KeepsLimits (array_outcome c low vs).0
array_keeps (create c) low vs k = k
array_keeps touch low vs k = k
array_keeps (store i v) low vs k = stored_keeps (place_of low (length vs) i) v low vs k
array_keeps (addh v) low vs k = addh_keeps v low vs k
array_keeps (addl v) low vs k = addl_keeps v low vs k
array_keeps remh low vs k = remh_keeps low vs k
array_keeps reml low vs k = reml_keeps low vs k
array_keeps (set_low i) low vs k = set_low_keeps i low vs k
array_keeps (trim from count) low vs k =
    trimmed_keeps (trim_refusal from count low (length vs)) from count low vs refl k
array_keeps (set_field i v) low vs k = k
array_keeps (change_tag t v) low vs k = k

-- what a change leaves keeps the limits
pub outcome_keeps : (c : PlainChange) (content : Option PlainContent) → CreatesWithin c → KeepsLimits content
    → KeepsLimits (outcome c content).0
outcome_keeps c (Some (arr low vs)) w k = array_keeps c low vs k
outcome_keeps (create c) None w k = w
outcome_keeps touch None w k = k
outcome_keeps (store i v) None w k = k
outcome_keeps (addh v) None w k = k
outcome_keeps (addl v) None w k = k
outcome_keeps remh None w k = k
outcome_keeps reml None w k = k
outcome_keeps (set_low i) None w k = k
outcome_keeps (trim from count) None w k = k
outcome_keeps (set_field i v) None w k = k
outcome_keeps (change_tag t v) None w k = k
outcome_keeps (create c) (Some (rec vs)) w k = k
outcome_keeps touch (Some (rec vs)) w k = k
outcome_keeps (store i v) (Some (rec vs)) w k = k
outcome_keeps (addh v) (Some (rec vs)) w k = k
outcome_keeps (addl v) (Some (rec vs)) w k = k
outcome_keeps remh (Some (rec vs)) w k = k
outcome_keeps reml (Some (rec vs)) w k = k
outcome_keeps (set_low i) (Some (rec vs)) w k = k
outcome_keeps (trim from count) (Some (rec vs)) w k = k
outcome_keeps (set_field i v) (Some (rec vs)) w k = by_if Keeps (nat_lt i (length vs)) _ _ (λ e. tt) (λ e. tt)
outcome_keeps (change_tag t v) (Some (rec vs)) w k = k
outcome_keeps (create c) (Some (var u x)) w k = k
outcome_keeps touch (Some (var u x)) w k = k
outcome_keeps (store i v) (Some (var u x)) w k = k
outcome_keeps (addh v) (Some (var u x)) w k = k
outcome_keeps (addl v) (Some (var u x)) w k = k
outcome_keeps remh (Some (var u x)) w k = k
outcome_keeps reml (Some (var u x)) w k = k
outcome_keeps (set_low i) (Some (var u x)) w k = k
outcome_keeps (trim from count) (Some (var u x)) w k = k
outcome_keeps (set_field i v) (Some (var u x)) w k = k
outcome_keeps (change_tag t v) (Some (var u x)) w k = k
