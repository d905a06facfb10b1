-- The place of an index, in a list of values and in the list of what they say.
use Rattle.std.proofs.{Common.{◌≡◌, ℕ, ℤ, List, length, slice_get, Some, sym, ap, ◌∙◌}, lemmas.List.length-map}
use Rattle.std.specs.Option.{option_and_then}
use Rattle.argus_contents.specs.{Place.place_of, Value.{plain_value, plain_list}, declared.value.Value.Value}

pub place_of-plain : (vs : List Value) (low i : ℤ) → place_of low (length (plain_list vs)) i
    ≡ place_of low (length vs) i
place_of-plain vs low i = ap (λ n. place_of low n i) (length-map vs plain_value)

-- the item at an index is the one at its place
pub item-at-place : (vs : List Value) (low i : ℤ) (place : ℕ) → Some place ≡ place_of low (length vs) i
    → option_and_then (slice_get (plain_list vs)) (place_of low (length (plain_list vs)) i)
    ≡ slice_get (plain_list vs) place
item-at-place vs low i place e = ap (option_and_then (slice_get (plain_list vs))) (place_of-plain vs low i ∙ sym e)
