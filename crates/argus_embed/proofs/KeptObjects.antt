-- The objects of a fold, one after another, and that a guardian may begin with copies of them.
use Rattle.std.proofs.Common.{List, None, Option, Some, [], ap, arith, length, map, refl, suc, take}
use Rattle.std.proofs.{Common.{true, zero, ℕ, ◌++◌, ◌+◌, ◌<◌, ◌∷◌, ◌≡◌, ◌≤◌}, lemmas.Bool.Decides.nat_tests}
use Rattle.std.proofs.lemmas.Bool.{lt-ltb}
use Rattle.std.proofs.lemmas.{List.{length-map, take_all, take_more}, Option.{get_or_from_slice_get, slice_get_within}}
use Rattle.std.specs.Prelude.{slice_get}
use Rattle.argus_values.specs.{Content.PlainContent, Shape.PlainShape, contents_declared.content.Content.Content}
use Rattle.argus_values.specs.{contents_declared.limits.TheConstants.MAX_OBJECTS, contents_declared.shape.Shape.Shape}
use Rattle.argus_guardian.specs.Objects.{where_declared}
use Rattle.argus_journal.specs.{Folding.{fold, next_entry_number, with_contents}, JournalFacts.base_of, Legal.Legal}
use Rattle.argus_journal.specs.{JournalView.{JournalView, next_entry}, Objects.{declared, shape_of}}
use Rattle.argus_journal.specs.Opening.{KeepsNumbers, Opening, is_sound, opening_with, plain_object}
use Rattle.argus_journal.specs.{declared.limits.TheConstants.MAX_FIRST_ENTRY, Entry.PlainEntry}
use Rattle.argus_journal.proofs.Folded.{fold_numbers, fold_sound}

-- an object of these shapes, by its number: its shape, and the content that the function gives it
object_found : (f : ℕ → Option PlainContent) (xs : List PlainShape) (o : ℕ) (shape : PlainShape)
    → slice_get xs o ≡ Some shape → slice_get (with_contents f xs) o ≡ Some (shape, f o)
object_found f [] o shape found = cc
object_found f (x ∷ xs) zero shape found = cc
object_found f (x ∷ xs) (suc o) shape found = object_found (λ n. f (suc n)) xs o shape found

-- and none past them
object_past : (f : ℕ → Option PlainContent) (xs : List PlainShape) (o : ℕ)
    → slice_get xs o ≡ None → slice_get (with_contents f xs) o ≡ None
object_past f [] o past = refl
object_past f (x ∷ xs) zero past = cc
object_past f (x ∷ xs) (suc o) past = object_past (λ n. f (suc n)) xs o past

count_kept : (f : ℕ → Option PlainContent) (xs : List PlainShape) → length (with_contents f xs) ≡ length xs
count_kept f [] = refl
count_kept f (x ∷ xs) = ap suc (count_kept (λ n. f (suc n)) xs)

-- so many and the next one
pub one_more : {A : Type 0} (xs : List A) (n : ℕ) (x : A) → slice_get xs n ≡ Some x → take n xs ++ x ∷ [] ≡ take (n + 1) xs
one_more xs n x found =
    let more = take_more xs n x (slice_get_within xs n x found) in
    let next = get_or_from_slice_get xs n x x found in
    cc

-- there is one at each number below their count
none_past : {A : Type 0} (xs : List A) (n : ℕ) → None ≡ slice_get xs n → n < length xs → ⊥
none_past [] n none lt = omega (arith, lt)
none_past (x ∷ xs) zero none lt = cc
none_past (x ∷ xs) (suc n) none lt = none_past xs n none (omega (arith, lt))

module _ (journal : JournalView) where
  abbrev objects_kept : List (PlainShape × Option PlainContent)
  objects_kept = (fold journal.opening journal.entries).objects

  pub undeclared : (o : ℕ) → None ≡ shape_of journal.opening journal.entries o → None ≡ slice_get objects_kept o
  undeclared o none = grind (arith, nat_tests, object_past)

  -- what is told of an object with a shape is there
  told_there : (o : ℕ) (shape : PlainShape) (content : Option PlainContent)
      → Some shape ≡ shape_of journal.opening journal.entries o → where_declared journal o content ≡ Some content
  told_there o shape content found = grind (arith, nat_tests, lt-ltb, slice_get_within)

  pub declared_without_base : (o : ℕ) (shape : PlainShape) → Some shape ≡ shape_of journal.opening journal.entries o
      → None ≡ where_declared journal o (base_of journal.opening journal.entries o) → ⊥
  declared_without_base o shape found none = grind (arith, nat_tests, told_there)

  pub object_copied : (o : ℕ) (shape copy : PlainShape) (content base : Option PlainContent)
      → Some shape ≡ shape_of journal.opening journal.entries o
      → Some content ≡ where_declared journal o (base_of journal.opening journal.entries o)
      → copy ≡ shape → base ≡ content → Some (copy, base) ≡ slice_get objects_kept o
  object_copied o shape copy content base found told same held = grind (arith, nat_tests, object_found, told_there)

  pub none_left : (o end : ℕ) → None ≡ slice_get objects_kept o → o < end
      → end ≡ declared journal.opening journal.entries → ⊥
  none_left o end none lt is = grind (arith, nat_tests, count_kept, none_past)

  pub all_kept : (o end : ℕ) → o ≡ end → end ≡ declared journal.opening journal.entries
      → take o objects_kept ≡ objects_kept
  all_kept o end all is = grind (arith, nat_tests, count_kept, take_all)

  -- of the journal as it is read
  module _ (s : Opening) (j : List PlainEntry) (opening : s ≡ journal.opening) (entries : j ≡ journal.entries) where
    pub count_read : (n : ℕ) → n ≡ next_entry_number s j → n ≡ next_entry journal
    count_read n is = grind (arith, nat_tests)

    module _ (sound : is_sound s ≡ true) (legal : Legal s j) where
      legal_read : Legal journal.opening journal.entries
      legal_read = grind (arith, nat_tests)

      module _ (copies : List (Shape × Option Content)) (are : map plain_object copies ≡ objects_kept) where
        pub copies_sound : (n : ℕ) → is_sound (opening_with copies 0 n) ≡ true
        copies_sound n = grind (arith, nat_tests, fold_sound)

        pub copies_few : KeepsNumbers s → next_entry journal ≤ MAX_FIRST_ENTRY → length copies ≤ MAX_OBJECTS
        copies_few keeps within = grind (arith, nat_tests, length-map, fold_numbers)
