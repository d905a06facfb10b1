-- Where the lines of an opening end, in bytes.
use Rattle.std.proofs.lemmas.{Option.{get_or_from_slice_get, slice_get_within}, List.{length-map, take-append-drop}}
use Rattle.std.proofs.{lemmas.List.take-take, Common.{◌≡◌, ℕ, suc, zero, ◌+◌, ◌-◌, ◌<◌, ◌≤◌, List, [], ◌∷◌, ◌++◌}}
use Rattle.std.proofs.Common.{length, take, drop, get_or, sym, ap, ◌∙◌, subst, arith, append-nil, append_assoc}
use Rattle.std.proofs.{Common.length-append, Math.Seq.{take-append_seam, take-length}}
use Rattle.std.specs.Prelude.{Option, Some, slice_get}
use Rattle.argus_contents.specs.{Content.PlainContent, Shape.PlainShape}
use Rattle.argus_listings.specs.Listing.{each_from, folded_line, opened_line}
use Rattle.argus_journal.specs.{Opening.{Opening, opening_at}, JournalView.JournalView}
use Rattle.argus_resume.specs.{SoundFront.opening_front, JournalText.journal_text, Stage.{opening_read, AreEnds}}
use Rattle.argus_resume.specs.Stage.{IsCounted, lines_of, object_read, objects_read, opened_alone}
use Rattle.argus_resume.specs.declared.opening_lines.OpeningLines.{OpeningLines}
use Rattle.argus_resume.specs.declared.opened_object.OpenedObject.{OpenedObject}
use Rattle.argus_resume.proofs.Texts.{each_from-append, opened_text}

-- how many bytes the lines of these objects have, where the first has this number
abbrev bytes_of : ℕ → List OpenedObject → ℕ
bytes_of o objects = length (each_from opened_line o (objects_read objects))

abbrev bytes_at : ℕ → OpenedObject → ℕ
bytes_at o object = length (opened_line o (object_read object))

bytes_more : (o : ℕ) (x : OpenedObject) (objects : List OpenedObject)
    → bytes_of o (x ∷ objects) ≡ bytes_at o x + bytes_of (o + 1) objects
bytes_more o x objects =
    length-append (opened_line o (object_read x)) (each_from opened_line (o + 1) (objects_read objects))

-- one more object
pub ends_push : (before o : ℕ) (objects : List OpenedObject) (object : OpenedObject) → AreEnds before o objects
    → object.end ≡ (before + bytes_of o objects) + bytes_at (o + length objects) object
    → AreEnds before o (objects ++ object ∷ [])
ends_push before o [] object r e = grind arith
ends_push before o (x ∷ objects) object r e = grind (arith, bytes_more, ends_push x.end (o + 1) objects object r.1)

-- the object at this place tells where its line ends
pub end_at : (before o : ℕ) (objects : List OpenedObject) (k : ℕ) (d : OpenedObject) → AreEnds before o objects
    → k < length objects
    → (get_or objects k d).end ≡ before + length (each_from opened_line o (take (suc k) (objects_read objects)))
end_at before o [] k d r h = absurd (omega arith)
end_at before o (x ∷ objects) zero d r h =
    r.0 ∙ ap (λ t. before + length t) (sym (append-nil (opened_line o (object_read x))))
end_at before o (x ∷ objects) (suc k) d r h =
    grind (arith, end_at x.end (o + 1) objects k d r.1 (omega arith), length-append)

-- all lines of an opening's front
pub lines_bytes : (s : Opening) → length (lines_of s)
    ≡ length (folded_line s.first_entry s.first_action) + length (each_from opened_line 0 s.objects)
lines_bytes s = length-append (folded_line s.first_entry s.first_action) (each_from opened_line 0 s.objects)

module _ (lines : OpeningLines) (counted : IsCounted lines) where
  -- the object at this place tells where the front with it ends
  pub front_end : (k : ℕ) (d : OpenedObject) → k < length lines.objects.items
      → (get_or lines.objects.items k d).end ≡ length (lines_of (opening_front (opening_read lines) (suc k)))
  front_end k d h = end_at lines.head 0 lines.objects.items k d counted.ends h
      ∙ ap (λ n. n + length (each_from opened_line 0 (take (suc k) (objects_read lines.objects.items)))) counted.head
      ∙ sym (lines_bytes (opening_front (opening_read lines) (suc k)))

  -- the last object tells where all lines end
  pub last_end : (object : OpenedObject) → 0 < length lines.objects.items
      → object ≡ get_or lines.objects.items (length lines.objects.items - 1) object
      → object.end ≡ length (lines_of (opening_read lines))
  last_end object h e =
      let items = lines.objects.items in
      let all : suc (length items - 1) ≡ length (objects_read items) = omega (arith, h, length-map items object_read) in
      let whole : take (suc (length items - 1)) (objects_read items) ≡ objects_read items =
      ap (λ n. take n (objects_read items)) all ∙ take-length (objects_read items) in
      ap (λ (x : OpenedObject). x.end) e ∙ front_end (length items - 1) object (omega (arith, h))
      ∙ ap (λ (l : List (PlainShape × Option PlainContent)). length (folded_line lines.first_entry lines.first_action
      ++ each_from opened_line 0 l)) whole

  -- so it does where it was found in the list of them
  pub last_found : (object : OpenedObject) (xs : List OpenedObject) → xs ≡ lines.objects.items
      → Some object ≡ slice_get xs (length xs - 1) → object.end ≡ length (lines_of (opening_read lines))
  last_found object xs e is =
      let items = lines.objects.items in
      let found : slice_get items (length items - 1) ≡ Some object =
      subst (λ (l : List OpenedObject). slice_get l (length l - 1) ≡ Some object) e (sym is) in
      let low = slice_get_within items (length items - 1) object found in
      last_end object (omega (arith, low)) (sym (get_or_from_slice_get items (length items - 1) object object found))

-- FRONTS

-- the lines of an opening are those of a front, and then the others
pub front_lines : (s : Opening) (n : ℕ) → lines_of s
    ≡ lines_of (opening_front s n) ++ each_from opened_line (0 + length (take n s.objects)) (drop n s.objects)
front_lines s n =
    let head = folded_line s.first_entry s.first_action in
    ap (λ l. head ++ each_from opened_line 0 l) (sym (take-append-drop n s.objects))
    ∙ ap (λ t. head ++ t) (each_from-append opened_line 0 (take n s.objects) (drop n s.objects))
    ∙ sym (append_assoc head (each_from opened_line 0 (take n s.objects))
    (each_from opened_line (0 + length (take n s.objects)) (drop n s.objects)))

-- a front has no more lines
pub front_shorter : (s : Opening) (n : ℕ) → length (lines_of (opening_front s n)) ≤ length (lines_of s)
front_shorter s n = omega (
  arith,
  ap length (front_lines s n),
  length-append (lines_of (opening_front s n))
      (each_from opened_line (0 + length (take n s.objects)) (drop n s.objects)),
)

-- a front has no more lines than a longer one
pub fronts_shorter : (s : Opening) (m n : ℕ) → m ≤ n
    → length (lines_of (opening_front s m)) ≤ length (lines_of (opening_front s n))
fronts_shorter s m n h = let same : opening_front (opening_front s n) m ≡ opening_front s m =
    ap (λ (l : List (PlainShape × Option PlainContent)). opening_at l s.first_action s.first_entry)
    (take-take m n s.objects h) in
    omega (arith, front_shorter (opening_front s n) m, ap (λ (k : Opening). length (lines_of k)) same)

front_opened : (s : Opening) (n : ℕ) → 0 < s.first_entry
    → journal_text (opened_alone (opening_front s n)) ≡ lines_of (opening_front s n)
front_opened s n h = opened_text (opening_front s n) h

-- what is let go of an opening's lines
pub front_taken : (s : Opening) (n : ℕ) (j g : JournalView) (dropped : ℕ) → 0 < s.first_entry → opened_alone s ≡ j
    → g ≡ opened_alone (opening_front s n) → dropped ≡ length (lines_of s) - length (lines_of (opening_front s n))
    → (journal_text g ≡ take (length (journal_text j) - dropped) (journal_text j))
    × (dropped + length (journal_text g) ≡ length (journal_text j))
front_taken s n j g dropped h is of d =
    let front = lines_of (opening_front s n) in
    let rest = each_from opened_line (0 + length (take n s.objects)) (drop n s.objects) in
    let whole : journal_text j ≡ front ++ rest = ap journal_text (sym is) ∙ opened_text s h ∙ front_lines s n in
    let part : journal_text g ≡ front = ap journal_text of ∙ front_opened s n h in
    let sizes : length (journal_text j) ≡ length front + length rest = ap length whole ∙ length-append front rest in
    let all : length (lines_of s) ≡ length front + length rest =
    ap length (front_lines s n) ∙ length-append front rest in
    let kept : length front ≡ length (journal_text j) - dropped = omega (arith, sizes, all, d) in (
      part ∙ sym (take-append_seam front rest) ∙ ap (λ (t : List ℕ). take (length front) t) (sym whole)
          ∙ ap (λ k. take k (journal_text j)) kept,
      omega (arith, sizes, all, d, ap length part),
    )
