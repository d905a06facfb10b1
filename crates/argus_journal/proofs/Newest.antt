-- The newest of the first entries.
use Rattle.std.proofs.Common.{List, None, Option, Some, [], ap, arith, length, map, refl, slice_get, suc, sym, take}
use Rattle.std.proofs.{Common.{zero, ℕ, ◌++◌, ◌<◌, ◌∙◌, ◌∷◌, ◌≡◌}, lemmas.Bool.Decides.nat_tests}
use Rattle.std.{proofs.lemmas.{Option.slice_get-map, List.{map-append, reverse-append}}, specs.Option.option_map}
use Rattle.argus_entries.specs.{Entry.{PlainEntry, plain_entry}, declared.entry.Entry.Entry}
use Rattle.argus_journal.specs.Journal.{IsNewest, newest_first}

newest_push : (xs : List Entry) (x : Entry) → newest_first (xs ++ x ∷ []) ≡ plain_entry x ∷ newest_first xs
newest_push xs x = grind (arith, nat_tests, map-append, reverse-append)

-- what stands in a place comes next behind those before it
found_at : (xs : List Entry) (k : ℕ) → k < length xs
    → (x : Entry) × (slice_get xs k ≡ Some x) × (take (suc k) xs ≡ take k xs ++ x ∷ [])
found_at [] k lt = absurd (omega arith)
found_at (x ∷ xs) zero lt = (x, refl, refl)
found_at (x ∷ xs) (suc k) lt = grind (arith, nat_tests, found_at xs k)

module _ (xs : List Entry) (k : ℕ) (lt : k < length xs) (found : Option PlainEntry)
    (is : found ≡ slice_get (map plain_entry xs) k) where
  some : found ≡ Some (plain_entry (found_at xs k lt).0)
  some = is ∙ slice_get-map plain_entry xs k ∙ ap (option_map plain_entry) (found_at xs k lt).1

  pub newest_taken : IsNewest found (newest_first (take (suc k) xs)) (newest_first (take k xs))
  newest_taken = grind (arith, nat_tests, some, found_at, newest_push)

  pub is_there : found ≡ None → ⊥
  is_there none = let gone = sym some ∙ none in cc
