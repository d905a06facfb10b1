-- The guardian of what was taken, and one of objects that a program holds, have listings that can be taken.
use Rattle.std.proofs.{lemmas.{Bool.and_parts, List.take_all}, Common.{List, None, Option, Some, [], arith, get_or}}
use Rattle.std.proofs.Common.{length, length-take, map, subst, suc, sym, take, true, zero, ℕ, ◌+◌, ◌<◌, ◌∷◌, ◌≡◌, ◌≤◌}
use Rattle.std.specs.List.{list_all}
use Rattle.argus_contents.specs.{Change.create, Content.PlainContent, Shape.{IsMakeable, PlainShape}}
use Rattle.argus_contents.specs.declared.{content.Content.Content, limits.TheConstants.MAX_OBJECTS, shape.Shape.Shape}
use Rattle.argus_entries.proofs.Suiting.{suiting_depth}
use Rattle.argus_journal.proofs.Fitting.{fits_more}
use Rattle.argus_journal.specs.{JournalView.JournalView, Opening.{Opening, empty, fits_shape, plain_object}}
use Rattle.argus_reading.specs.OpeningLanguages.{IsReadableContent}
use Rattle.argus_resume.specs.JournalText.{AreReadableObjects, IsEmptyOrReadable, IsReadableJournal}
use Rattle.argus_resume.specs.{Laws.OpeningsAreReadable, ReadableCalls.HaveReadableCalls, SoundFront.opening_front}
use Rattle.argus_resume.specs.{SoundFront.{sound_count, sound_front}, WellFormed.AreWellFormedObjects}
use Rattle.argus_resume.specs.WellFormed.{IsWellFormedObject, IsWellFormedOption}
use Rattle.argus_resume.proofs.Readable.{calls_of_readable}

-- WHAT WAS TAKEN

front_objects : (n : ℕ) (objects : List (PlainShape × Option PlainContent)) → AreReadableObjects objects
    → AreReadableObjects (take n objects)
front_objects zero [] r = tt
front_objects zero (object ∷ objects) r = tt
front_objects (suc n) [] r = tt
front_objects (suc n) (object ∷ objects) r = (r.0, front_objects n objects r.1)

front_empty : (n : ℕ) → opening_front empty n ≡ empty
front_empty p = grind arith

front_opening : (s : Opening) (n : ℕ) → IsEmptyOrReadable s → IsEmptyOrReadable (opening_front s n)
front_opening s n p = grind (arith, front_empty, length-take, front_objects)

-- the opening of the guardian of what was taken
pub taken_opening : (taken guardian : JournalView) → IsReadableJournal taken → guardian ≡ sound_front taken
    → IsEmptyOrReadable guardian.opening
taken_opening taken guardian r is = subst (λ (j : JournalView). IsEmptyOrReadable j.opening) (sym is)
    (front_opening taken.opening (sound_count taken.opening (length taken.opening.objects)) r.opening)

-- and its calls
pub taken_calls : (taken guardian : JournalView) → IsReadableJournal taken → guardian ≡ sound_front taken
    → HaveReadableCalls guardian.entries
taken_calls taken guardian r is =
    subst (λ (j : JournalView). HaveReadableCalls j.entries) (sym is) (calls_of_readable taken.entries r.entries)

-- OBJECTS THAT A PROGRAM HOLDS

objects_next : (xs : List (Shape × Option Content)) (i : ℕ) (d : Shape × Option Content) → i < length xs
    → AreWellFormedObjects (map plain_object (take i xs)) → IsWellFormedObject (plain_object (get_or xs i d))
    → AreWellFormedObjects (map plain_object (take (suc i) xs))
objects_next [] i d lt first next = absurd (omega (arith, lt))
objects_next (x ∷ xs) zero d lt first next = (next, tt)
objects_next (x ∷ xs) (suc i) d lt first next = (first.0, objects_next xs i d (omega (arith, lt)) first.1 next)

-- one more
pub objects_more : (xs : List (Shape × Option Content)) (i : ℕ) (d : Shape × Option Content) → i < length xs
    → AreWellFormedObjects (map plain_object (take i xs)) → IsWellFormedObject (plain_object (get_or xs i d))
    → AreWellFormedObjects (map plain_object (take (i + 1) xs))
objects_more xs i d lt first next =
    let more : suc i ≡ i + 1 = omega arith in
    subst (λ n. AreWellFormedObjects (map plain_object (take n xs))) more (objects_next xs i d lt first next)

content_shallow : (s : PlainShape) (n : ℕ) (c : Option PlainContent) → IsMakeable s → IsWellFormedOption c
    → fits_shape (Some s) n c ≡ true → IsReadableContent c
content_shallow s n None m w e = tt
content_shallow s n (Some c) m w e = suiting_depth s n w.0 (create c) m e w.1

objects_readable : (n : ℕ) (objects : List (PlainShape × Option PlainContent)) → n ≤ MAX_OBJECTS
    → AreWellFormedObjects objects → list_all (λ object. fits_shape (Some object.0) n object.1) objects ≡ true
    → AreReadableObjects objects
objects_readable n [] le w e = tt
objects_readable n (object ∷ objects) le w e = let fits = and_parts (fits_shape (Some object.0) n object.1)
    (list_all (λ object. fits_shape (Some object.0) n object.1) objects) e in (
      record {
        makeable = w.0.0;
        within = content_shallow object.0 n object.1 w.0.0 w.0.1 fits.0;
        may_fit = fits_more (Some object.0) n MAX_OBJECTS object.1 le fits.0;
      },
      objects_readable n objects le w.1 fits.1,
    )

-- all of them
pub objects_all : (xs : List (Shape × Option Content)) (i : ℕ) → length xs ≤ i
    → AreWellFormedObjects (map plain_object (take i xs)) → OpeningsAreReadable (map plain_object xs)
objects_all xs i past held first_action first_entry some limits sound =
    let all : AreWellFormedObjects (map plain_object xs) =
    subst (λ (ys : List (Shape × Option Content)). AreWellFormedObjects (map plain_object ys)) (take_all i xs past) held in
    record {
      some = some;
      limits = limits;
      objects = objects_readable (length (map plain_object xs)) (map plain_object xs) limits.objects all sound;
    }
