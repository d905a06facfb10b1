-- Items and fields that are written, and what a trim leaves.
use Rattle.std.proofs.Common.{◌≡◌, ℕ, ◌<◌, ℤ, ◌≤ℤ◌, ◌<ℤ◌, List, length, take, drop, Some, true, refl, arith, nat_lt}
use Rattle.std.proofs.{lemmas.List.{map-set, length-map, drop-map}, lemmas.Bool.Decides.nat_tests}
use Rattle.std.specs.List.{take-map}
use lib.ListN.{set}
use Rattle.argus_contents.specs.{Value.{plain_value, plain_list}, Content.{rec, arr}, Answer.done, Place.place_of}
use Rattle.argus_contents.specs.{Change.{array_outcome, store, set_in}, declared.value.Value.Value}
use Rattle.argus_contents.proofs.Places.{place_of-plain}

pub stored : (vs : List Value) (low i : ℤ) (place : ℕ) (v : Value) → Some place ≡ place_of low (length vs) i
    → (Some (arr low (plain_list (set vs place v))), done) ≡ array_outcome (store i (plain_value v)) low (plain_list vs)
stored vs low i place v e = rw (place_of-plain vs low i, ← e, map-set plain_value vs place v) refl

within_true : (i n m : ℕ) → m ≡ n → i < n → nat_lt i m ≡ true
within_true i n m e h = grind (arith, nat_tests)

pub field_written : (vs : List Value) (i : ℕ) (v : Value) → i < length vs → (Some (rec (plain_list (set vs i v))), done)
    ≡ set_in i (plain_value v) (plain_list vs)
field_written vs i v h = rw (
  within_true i (length vs) (length (plain_list vs)) (length-map vs plain_value) h,
  map-set plain_value vs i v,
) refl

-- what is kept of the items, and what it says
pub kept_items : (vs : List Value) (k m k' m' : ℕ) (dropped kept : List Value) → k ≡ k' → dropped ≡ drop k vs → m ≡ m'
    → kept ≡ take m dropped → plain_list kept ≡ take m' (drop k' (plain_list vs))
kept_items vs k m k' m' dropped kept ek ed em et =
    rw (et, ed, ← take-map plain_value m (drop k vs), ← drop-map plain_value k vs, ek, em) refl
