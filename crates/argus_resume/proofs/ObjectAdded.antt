-- An opening with one more object, from the line that spells it.
use Rattle.std.proofs.{lemmas.List.{length-map, map-append}, Common.{◌≡◌, ℕ, ◌+◌, ◌<◌, List, [], ◌∷◌, ◌++◌, length}}
use Rattle.std.proofs.Common.{sym, ap, ◌∙◌, subst, arith, true, length-append}
use Rattle.std.specs.Prelude.{Option, Some, codes}
use Rattle.argus_contents.specs.{Content.PlainContent, Shape.PlainShape, declared.limits.TheConstants.MAX_OBJECTS}
use Rattle.argus_journal.specs.Opening.{fits_shape, opening_at}
use Rattle.argus_listings.specs.Listing.{each_from, folded_line, opened_line}
use Rattle.argus_reading.specs.OpeningLanguages.{IsForm, ObjectLines}
use Rattle.argus_resume.specs.{JournalText.IsReadableOpening, Stage.{AreEnds, lines_of, object_read, objects_read}}
use Rattle.argus_resume.specs.{Stage.opening_line, declared.opened_object.OpenedObject.OpenedObject}
use Rattle.argus_resume.proofs.{Ends.{ends_push, lines_bytes}, Openings.{object_line_form, readable_push}}
use Rattle.argus_resume.proofs.Texts.{object_text}

abbrev Fits : PlainShape × Option PlainContent → Type 0
Fits object = fits_shape (Some object.0) MAX_OBJECTS object.1 ≡ true

line_length : (rest : List ℕ) → length (opening_line rest) ≡ 9 + length rest
line_length rest =
    omega (arith, length-append (codes "opening " ++ rest) (10 ∷ []), length-append (codes "opening ") rest)

module _ (items : List OpenedObject) (first_action first_entry : ℕ) (object : OpenedObject) (o : ℕ) (rest : List ℕ)
    (new : List OpenedObject) (is : new ≡ items ++ object ∷ []) (form : IsForm ObjectLines (o, object_read object) rest)
    (place : o ≡ length items) where
  objects_more : objects_read new ≡ objects_read items ++ object_read object ∷ []
  objects_more = ap objects_read is ∙ map-append object_read items (object ∷ [])

  line_is : (n : ℕ) → n ≡ o → opened_line n (object_read object) ≡ opening_line rest
  line_is n e = ap (λ k. opened_line k (object_read object)) e ∙ object_line_form o (object_read object)
      ∙ ap opening_line (sym form.is)

  pub added_readable : o < MAX_OBJECTS → Fits (object_read object)
      → IsReadableOpening (opening_at (objects_read items) first_action first_entry)
      → IsReadableOpening (opening_at (objects_read new) first_action first_entry)
  added_readable room fits r = grind (arith, length-map, length-append, objects_more, readable_push)

  pub added_text : lines_of (opening_at (objects_read new) first_action first_entry)
      ≡ lines_of (opening_at (objects_read items) first_action first_entry) ++ opening_line rest
  added_text =
      let number : length (objects_read items) ≡ o = omega (arith, length-map items object_read, place) in
      ap (λ l. lines_of (opening_at l first_action first_entry)) objects_more
      ∙ object_text (objects_read items) (object_read object) first_action first_entry
      ∙ ap (λ t. lines_of (opening_at (objects_read items) first_action first_entry) ++ t)
      (line_is (length (objects_read items)) number)

  pub added_ends : (head : ℕ) → head ≡ length (folded_line first_entry first_action) → AreEnds head 0 items
      → object.end ≡ length (lines_of (opening_at (objects_read items) first_action first_entry)) + 9 + length rest
      → AreEnds head 0 new
  added_ends head h r e =
      let number : 0 + length items ≡ o = omega (arith, place) in
      let line : length (opened_line (0 + length items) (object_read object)) ≡ 9 + length rest =
      ap length (line_is (0 + length items) number) ∙ line_length rest in
      let end : object.end ≡ (head + length (each_from opened_line 0 (objects_read items)))
      + length (opened_line (0 + length items) (object_read object)) =
      omega (arith, e, h, line, lines_bytes (opening_at (objects_read items) first_action first_entry)) in
      subst (AreEnds head 0) (sym is) (ends_push head 0 items object r end)
