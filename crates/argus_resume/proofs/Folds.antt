-- A checkpoint of a journal whose lines can be read is an opening whose lines can be read.
use Rattle.std.proofs.Common.{List, Option, Some, [], arith, inl, inr, refl, suc, sym, true, ℕ, ◌<◌, ◌∷◌, subst, ◌≡◌}
use Rattle.std.proofs.Common.{◌≤◌}
use Rattle.std.specs.Prelude.{slice_get}
use Rattle.argus_contents.specs.{Content.PlainContent, Shape.PlainShape, declared.limits.TheConstants.MAX_OBJECTS}
use Rattle.argus_contents.specs.declared.limits.TheConstants.{MAX_VALUE_DEPTH}
use Rattle.argus_entries.specs.Entry.{PlainEntry}
use Rattle.argus_model.specs.Owner.{is_base, owner}
use Rattle.argus_journal.specs.{Events.history, Folding.{fold, next_entry_number, with_contents}, JournalFacts.base_of}
use Rattle.argus_journal.specs.{Legal.Legal, Objects.{declared, shape_of, shapes}, Opening.{Opening, content_in, empty}}
use Rattle.argus_journal.specs.{Opening.{fits_shape, is_sound}, declared.limits.TheConstants.MAX_FIRST_ENTRY}
use Rattle.argus_journal.proofs.{Contents.content_fits, Fitting.{fits_keeps, fits_more}, Folded.fold_numbers}
use Rattle.argus_journal.proofs.Within.{objects_within}
use Rattle.argus_resume.specs.{ReadableCalls.HaveReadableCalls, JournalText.{AreReadableObjects, IsEmptyOrReadable}}
use Rattle.argus_resume.specs.JournalText.{IsReadableOpening}
use Rattle.argus_resume.proofs.{Depths.{ValuesWithin, content_readable}, Granted.{AreMakeable, shapes_makeable}}
use Rattle.argus_resume.proofs.{Readable.calls_within, Replies.{begins_numbers, begins_objects}, Seen.opened_within}
use Rattle.argus_resume.proofs.Seen.{seen_within}

objects_readable : (content : ℕ → Option PlainContent) (xs : List PlainShape) (n : ℕ) → n ≤ MAX_OBJECTS
    → AreMakeable xs → ((o : ℕ) → ValuesWithin MAX_VALUE_DEPTH (content o))
    → ((o : ℕ) → fits_shape (slice_get xs o) n (content o) ≡ true) → AreReadableObjects (with_contents content xs)
objects_readable content [] n le m w fit = tt
objects_readable content (x ∷ xs) n le m w fit =
    let readable = content_readable (content 0) (fits_keeps (Some x) n (content 0) (fit 0)) (w 0) in (
      record { makeable = m.0; within = readable; may_fit = fits_more (Some x) n MAX_OBJECTS (content 0) le (fit 0) },
      objects_readable (λ o. content (suc o)) xs n le m.1 (λ o. w (suc o)) (λ o. fit (suc o)),
    )

module _ (s : Opening) (j : List PlainEntry) (begins : IsEmptyOrReadable s) (sound : is_sound s ≡ true)
    (legal : Legal s j) (calls : HaveReadableCalls j) where
  base_within : (o : ℕ) → ValuesWithin MAX_VALUE_DEPTH (base_of s j o)
  base_within o = seen_within MAX_VALUE_DEPTH (λ b. is_base (owner (history s j) b)) o (content_in s.objects o) s j
      (calls_within s begins sound j legal calls) (opened_within s.objects o (begins_objects s begins))

  base_fits : (o : ℕ) → fits_shape (shape_of s j o) (declared s j) (base_of s j o) ≡ true
  base_fits o = content_fits (λ b. is_base (owner (history s j) b)) s j o sound legal

  folded_readable : 0 < next_entry_number s j → next_entry_number s j ≤ MAX_FIRST_ENTRY → IsReadableOpening (fold s j)
  folded_readable some within =
      let numbers = begins_numbers s begins in
      record {
        some = some;
        limits = fold_numbers s j numbers legal within;
        objects = objects_readable (base_of s j) (shapes s j) (declared s j) (objects_within s j numbers.objects legal)
            (shapes_makeable s j (begins_objects s begins) calls) base_within base_fits;
      }

-- where there was no entry, there is none and no object
unbegun : (s : Opening) (j : List PlainEntry) → IsEmptyOrReadable s → next_entry_number s j ≡ 0 → fold s j ≡ empty
unbegun s [] (inl e) n = subst (λ x. fold x [] ≡ empty) (sym e) refl
unbegun s [] (inr r) n = let some = r.some in absurd (omega (arith, n, some))
unbegun s (e ∷ older) begins n = absurd (omega (arith, n))

-- the opening that the journal is folded into
pub fold_begins : (s : Opening) (j : List PlainEntry) → IsEmptyOrReadable s → is_sound s ≡ true → Legal s j
    → HaveReadableCalls j → next_entry_number s j ≤ MAX_FIRST_ENTRY → IsEmptyOrReadable (fold s j)
fold_begins s j begins sound legal calls within = grind (arith, unbegun, folded_readable)
