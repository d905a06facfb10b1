-- Objects of an opening that are copied one after another.
use Rattle.std.proofs.Common.{◌≡◌, ℕ, ◌+◌, ◌≤◌, List, [], ◌∷◌, ◌++◌, length, map, None, Option, Some, take, sym, ap}
use Rattle.std.proofs.{Common.{◌∙◌, arith}, lemmas.List.{map-append, take_all, take_more}}
use Rattle.std.proofs.lemmas.Option.{get_or_from_slice_get, none-some, slice_get_cases, slice_get_within}
use Rattle.std.specs.Prelude.{slice_get}
use Rattle.argus_contents.specs.{Content.PlainContent, Shape.PlainShape, declared.content.Content.Content}
use Rattle.argus_contents.specs.declared.shape.Shape.{Shape}
use Rattle.argus_journal.specs.Opening.{Opening, opening_with, plain_object}

-- one more
pub copied_more : (objects : List (PlainShape × Option PlainContent)) (o : ℕ) (x : PlainShape × Option PlainContent)
    (items new : List (Shape × Option Content)) (y : Shape × Option Content) → slice_get objects o ≡ Some x
    → map plain_object items ≡ take o objects → new ≡ items ++ y ∷ [] → plain_object y ≡ x
    → (o + 1 ≤ length objects) × (map plain_object new ≡ take (o + 1) objects)
copied_more objects o x items new y found copied is same = let low = slice_get_within objects o x found in (
  omega (arith, low),
  ap (map plain_object) is ∙ map-append plain_object items (y ∷ [])
      ∙ ap (λ t. t ++ plain_object y ∷ []) copied ∙ ap (λ z. take o objects ++ z ∷ []) same
      ∙ ap (λ z. take o objects ++ z ∷ []) (sym (get_or_from_slice_get objects o x x found))
      ∙ sym (take_more objects o x low),
)

past_all : (objects : List (PlainShape × Option PlainContent)) (o : ℕ) → slice_get objects o ≡ None → length objects ≤ o
past_all objects o none = grind (arith, slice_get_cases, none-some)

-- all of them
pub copied_all : (s : Opening) (items : List (Shape × Option Content)) (o first_action first_entry : ℕ)
    → slice_get s.objects o ≡ None → map plain_object items ≡ take o s.objects → first_action ≡ s.first_action
    → first_entry ≡ s.first_entry → opening_with items first_action first_entry ≡ s
copied_all s items o first_action first_entry none copied a e = grind (arith, take_all, past_all)
