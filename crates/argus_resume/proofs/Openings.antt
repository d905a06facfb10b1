-- The lines of openings: what each says, and what can't be the next one.
use Rattle.std.proofs.{lemmas.{List.{append_cancel_left, append_cancel_right}, Str.IsUtf8-append}, Common.{◌≡◌, ℕ, ◌<◌}}
use Rattle.std.proofs.Common.{List, [], ◌∷◌, ◌++◌, length, refl, sym, ◌∙◌, subst, inl, inr, append_assoc, arith, true}
use Rattle.std.specs.{Fmt.decimal, Prelude.{Option, Some, codes}, Str.IsUtf8}
use Rattle.argus_contents.specs.{Content.PlainContent, Shape.PlainShape, declared.limits.TheConstants.MAX_OBJECTS}
use Rattle.argus_journal.specs.{JournalView.{JournalView, next_entry}, Opening.{Opening, fits_shape}}
use Rattle.argus_listings.specs.Listing.{folded_line, opened_line}
use Rattle.argus_reading.specs.OpeningLanguages.{FoldedLines, IsForm, ObjectLines, content_text}
use Rattle.argus_reading.proofs.Told.{object_told}
use Rattle.argus_texts.specs.{Language.FormOf, ShapeSpelling.shape_spelling}
use Rattle.argus_resume.specs.{JournalText.{AreReadableObjects, IsReadableObject}, Stage.{opened_alone, opening_line}}
use Rattle.argus_resume.specs.Lines.{AddsObject, BeginsOpening, IsLineFault, IsNextOfOpening, IsOfOpening}
use Rattle.argus_resume.proofs.Clean.{word_clean}
use Rattle.argus_resume.specs.declared.line_fault.LineFault.TheVariants as fault

-- FORMS

object_regroup : (d s c : List ℕ) → codes "opening o" ++ d ++ codes " " ++ s ++ codes " " ++ c ++ 10 ∷ []
    ≡ codes "opening " ++ ((codes "o" ++ d) ++ 32 ∷ (s ++ 32 ∷ c)) ++ 10 ∷ []
object_regroup d s c = simp append_assoc

-- an object's line is its form behind the first word
pub object_line_form : (o : ℕ) (object : PlainShape × Option PlainContent)
    → opened_line o object ≡ opening_line (ObjectLines.form (o, object))
object_line_form o object = object_regroup (decimal o) (shape_spelling object.0) (content_text object.1)

folded_regroup : (n m : List ℕ) → (codes "opening entries " ++ n) ++ (codes " actions " ++ m) ++ 10 ∷ []
    ≡ codes "opening " ++ ((codes "entries " ++ n) ++ 32 ∷ (codes "actions " ++ m)) ++ 10 ∷ []
folded_regroup n m = simp append_assoc

-- so is the first line
pub folded_line_form : (n m : ℕ) → folded_line n m ≡ opening_line (FoldedLines.form (n, m))
folded_line_form n m = folded_regroup (decimal n) (decimal m)

-- what stands behind the first word of a line
pub line_told : (rest other : List ℕ) → codes "opening " ++ rest ++ 10 ∷ [] ≡ opening_line other → rest ≡ other
line_told rest other e = append_cancel_left (codes "opening ") rest other
    (append_cancel_right (codes "opening " ++ rest) (codes "opening " ++ other) (10 ∷ []) e)

pub adds_form : (journal : JournalView) (rest : List ℕ) (a : AddsObject journal (codes "opening " ++ rest))
    → IsForm ObjectLines (length journal.opening.objects, a.object) rest
adds_form journal rest a = grind (arith, line_told, object_line_form)

pub begins_form : (journal : JournalView) (rest : List ℕ) → BeginsOpening journal (codes "opening " ++ rest)
    → FormOf FoldedLines rest
begins_form journal rest b = record {
  thing = (b.entries, b.actions);
  good = ((omega (arith, b.some), omega (arith, b.entries_within)), (omega arith, omega (arith, b.actions_within)));
  is = line_told rest (FoldedLines.form (b.entries, b.actions)) (b.is ∙ folded_line_form b.entries b.actions);
}

-- WHAT CAN'T BE THE NEXT LINE

pub of_opening : (rest : List ℕ) → IsOfOpening (codes "opening " ++ rest)
of_opening rest = record { thing = tt; rest = rest; reads = record { good = tt; ends = tt; is = refl } }

pub opening_utf8 : (rest : List ℕ) → IsUtf8 rest → IsUtf8 (codes "opening " ++ rest)
opening_utf8 rest u = IsUtf8-append (codes "opening ") rest (word_clean (codes "opening ") refl).1 u

-- what follows the first word says no object
pub no_object : (s : Opening) (rest : List ℕ) → 0 < s.first_entry → IsUtf8 rest → (FormOf ObjectLines rest → ⊥)
    → IsLineFault fault.NotAnOpening (opened_alone s) (codes "opening " ++ rest)
no_object s rest h u n = (opening_utf8 rest u, of_opening rest, no)
  where
    no : IsNextOfOpening (opened_alone s) (codes "opening " ++ rest) → ⊥
    no (inl b) = let z : next_entry (opened_alone s) ≡ 0 = b.first in omega arith
    no (inr a) =
        let f = adds_form (opened_alone s) rest a in
        n (record { thing = (length s.objects, a.object); good = f.good; is = f.is })

-- it says an object that can't be added
pub no_adding : (s : Opening) (rest : List ℕ) (o : ℕ) (object : PlainShape × Option PlainContent) → 0 < s.first_entry
    → IsUtf8 rest → IsForm ObjectLines (o, object) rest
    → ((o ≡ length s.objects) × (o < MAX_OBJECTS) × (fits_shape (Some object.0) MAX_OBJECTS object.1 ≡ true) → ⊥)
    → IsLineFault fault.NotAnOpening (opened_alone s) (codes "opening " ++ rest)
no_adding s rest o object h u f n = (opening_utf8 rest u, of_opening rest, no)
  where
    no : IsNextOfOpening (opened_alone s) (codes "opening " ++ rest) → ⊥
    no (inl b) = let z : next_entry (opened_alone s) ≡ 0 = b.first in omega arith
    no (inr a) =
        let same = object_told o (length s.objects) object a.object rest f (adds_form (opened_alone s) rest a) in
        n (
          same.0,
          omega (arith, same.0, a.room),
          subst (λ (x : PlainShape × Option PlainContent). fits_shape (Some x.0) MAX_OBJECTS x.1 ≡ true) (sym same.1)
              a.readable.may_fit,
        )

-- it doesn't begin an opening, and none is there
pub no_first : (journal : JournalView) (rest : List ℕ) → journal.opening.first_entry ≡ 0 → IsUtf8 rest
    → (FormOf FoldedLines rest → ⊥) → IsLineFault fault.NotAnOpening journal (codes "opening " ++ rest)
no_first journal rest h u n = (opening_utf8 rest u, of_opening rest, no)
  where
    no : IsNextOfOpening journal (codes "opening " ++ rest) → ⊥
    no (inl b) = n (begins_form journal rest b)
    no (inr a) = let z = a.opened in omega arith

-- ONE OBJECT MORE

pub readable_push : (objects : List (PlainShape × Option PlainContent)) (object : PlainShape × Option PlainContent)
    → AreReadableObjects objects → IsReadableObject object → AreReadableObjects (objects ++ object ∷ [])
readable_push [] object r h = (h, tt)
readable_push (x ∷ objects) object r h = (r.0, readable_push objects object r.1 h)
