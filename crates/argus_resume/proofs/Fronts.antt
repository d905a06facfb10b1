-- A journal whose listing begins with that of another: what it has more.
use Rattle.std.proofs.{lemmas.List.append_cancel_left, Common.{◌≡◌, ℕ, ◌+◌, ◌<◌, ◌≤◌, ◌^◌, ◌⊎◌, List, [], ◌∷◌, ◌++◌}}
use Rattle.std.proofs.Common.{length, refl, sym, ap, ◌∙◌, inl, inr, arith, append_assoc, length-append}
use Rattle.std.specs.Prelude.{Option, codes}
use Rattle.argus_contents.specs.{Content.PlainContent, Shape.PlainShape, declared.limits.TheConstants.MAX_OBJECTS}
use Rattle.argus_entries.specs.{Entry.PlainEntry, EntrySpelling.{entry_line, entry_spelling}}
use Rattle.argus_entries.proofs.Lines.{one_line}
use Rattle.argus_journal.specs.Opening.{Opening}
use Rattle.argus_listings.specs.Listing.{each_from, opened_line}
use Rattle.argus_reading.specs.OpeningLanguages.{FoldedLines, IsForm, ObjectLines}
use Rattle.argus_reading.proofs.Told.{object_told}
use Rattle.argus_texts.proofs.{Digits.first_digit, Lists.{head_of, tail_of}}
use Rattle.argus_resume.specs.JournalText.{AreReadable, AreReadableObjects, IsReadableObject, IsReadableOpening}
use Rattle.argus_resume.specs.Taking.{HasNoFeed}
use Rattle.argus_resume.proofs.{Clean.{entry_clean, object_clean}, Openings.object_line_form}

-- LINES

-- lines end at their line feeds
pub feed_told : (a b x y : List ℕ) → HasNoFeed a → HasNoFeed b → a ++ 10 ∷ x ≡ b ++ 10 ∷ y → (a ≡ b) × (x ≡ y)
feed_told [] [] x y g h e = (refl, tail_of e)
feed_told [] (c ∷ b) x y g h e = absurd (h.0 (sym (head_of e)))
feed_told (c ∷ a) [] x y g h e = absurd (g.0 (head_of e))
feed_told (c ∷ a) (d ∷ b) x y g h e = grind (arith, feed_told a b x y g.1 h.1 (tail_of e), tail_of, head_of)

-- the same of lines with what is behind them
pub lines_told : (a b x y : List ℕ) → HasNoFeed a → HasNoFeed b → (a ++ 10 ∷ []) ++ x ≡ (b ++ 10 ∷ []) ++ y
    → (a ≡ b) × (x ≡ y)
lines_told a b x y g h e = feed_told a b x y g h (sym (append_assoc a (10 ∷ []) x) ∙ e ∙ append_assoc b (10 ∷ []) y)

-- a line isn't nothing
pub no_line : (a x : List ℕ) → (a ++ 10 ∷ []) ++ x ≡ [] → ⊥
no_line a x e = omega (arith, ap length e, length-append (a ++ 10 ∷ []) x, length-append a (10 ∷ []))

-- the line of an entry is none of an opening
pub no_opening_line : (n : ℕ) (e : PlainEntry) (x y : List ℕ) → n < 2 ^ 64 → 111 ∷ y ≡ entry_spelling n e ++ x → ⊥
no_opening_line n e x y h q = grind (arith, first_digit, append_assoc)

-- ENTRIES

-- entries whose lines begin another's list of lines begin that list
pub entries_front : (n : ℕ) (xs ys : List PlainEntry) (t : List ℕ) → AreReadable xs → AreReadable ys
    → n + length ys ≤ 2 ^ 64 → each_from entry_line n xs ++ t ≡ each_from entry_line n ys
    → (zs : List PlainEntry) × (ys ≡ xs ++ zs) × (t ≡ each_from entry_line (n + length xs) zs)
entries_front n [] ys t r s h e = grind arith
entries_front n (x ∷ xs) [] t r s h e = absurd (no_line (entry_spelling n x) (each_from entry_line (n + 1) xs ++ t)
    (sym (append_assoc (entry_line n x) (each_from entry_line (n + 1) xs) t) ∙ e))
entries_front n (x ∷ xs) (y ∷ ys) t r s h e =
    let low : n < 2 ^ 64 = omega (arith, h) in
    let told = lines_told (entry_spelling n x) (entry_spelling n y) (each_from entry_line (n + 1) xs ++ t)
    (each_from entry_line (n + 1) ys) (entry_clean n x low r.0).0 (entry_clean n y low s.0).0
    (sym (append_assoc (entry_line n x) (each_from entry_line (n + 1) xs) t) ∙ e) in
    let same = one_line 16 n n x y low low (r.0.0.0, r.0.1) (s.0.0.0, s.0.1) told.0 in
    let rest = entries_front (n + 1) xs ys t r.1 s.1 (omega (arith, h)) told.1 in
    let place : (n + 1) + length xs ≡ n + length (x ∷ xs) = omega arith in (
      rest.0,
      ap (λ z. y ∷ z) rest.1 ∙ ap (λ z. z ∷ (xs ++ rest.0)) (sym same.1),
      rest.2 ∙ ap (λ k. each_from entry_line k rest.0) place,
    )

-- OBJECTS

abbrev Object : Type 0
Object = PlainShape × Option PlainContent

pub object_form : (o : ℕ) (x : Object) → o < MAX_OBJECTS → IsReadableObject x → IsForm ObjectLines (o, x)
    (ObjectLines.form (o, x))
object_form o x h r = grind arith

-- what is behind an object's line
pub object_line_told : (o : ℕ) (x y : Object) (u v : List ℕ) → o < MAX_OBJECTS → IsReadableObject x → IsReadableObject y
    → opened_line o x ++ u ≡ opened_line o y ++ v → (x ≡ y) × (u ≡ v)
object_line_told o x y u v h r s e =
    let f = object_form o x h r in
    let g = object_form o y h s in
    let told = lines_told (codes "opening " ++ ObjectLines.form (o, x)) (codes "opening " ++ ObjectLines.form
    (o, y)) u v (object_clean (o, x) f.good).0 (object_clean (o, y) g.good).0
    (ap (λ t. t ++ u) (sym (object_line_form o x)) ∙ e ∙ ap (λ t. t ++ v) (object_line_form o y)) in
    let forms = append_cancel_left (codes "opening ") (ObjectLines.form (o, x)) (ObjectLines.form (o, y)) told.0 in
    ((object_told o o x y (ObjectLines.form (o, x)) f (record { good = g.good; is = forms })).1, told.1)

-- one of two lists of objects begins the other
pub objects_front : (o : ℕ) (xs ys : List Object) (u v : List ℕ) → AreReadableObjects xs → AreReadableObjects ys
    → o + length xs ≤ MAX_OBJECTS → o + length ys ≤ MAX_OBJECTS
    → each_from opened_line o xs ++ u ≡ each_from opened_line o ys ++ v
    → ((zs : List Object) × (ys ≡ xs ++ zs) × (u ≡ each_from opened_line (o + length xs) zs ++ v))
    ⊎ ((z : Object) × (zs : List Object) × (each_from opened_line (o + length ys) (z ∷ zs) ++ u ≡ v))
objects_front o [] ys u v r s h k e = grind arith
objects_front o (x ∷ xs) [] u v r s h k e =
    let same : o + 0 ≡ o = omega arith in
    inr (x, xs, ap (λ n. each_from opened_line n (x ∷ xs) ++ u) same ∙ e)
objects_front o (x ∷ xs) (y ∷ ys) u v r s h k e =
    let told = object_line_told o x y (each_from opened_line (o + 1) xs ++ u) (each_from opened_line (o + 1) ys ++ v)
    (omega (arith, h)) r.0 s.0 (sym (append_assoc (opened_line o x) (each_from opened_line (o + 1) xs) u) ∙ e
    ∙ append_assoc (opened_line o y) (each_from opened_line (o + 1) ys) v) in
    elim (objects_front (o + 1) xs ys u v r.1 s.1 (omega (arith, h)) (omega (arith, k)) told.1) [
      | inl front ↦
          let place : (o + 1) + length xs ≡ o + length (x ∷ xs) = omega arith in
          inl (
            front.0,
            ap (λ (z : List Object). y ∷ z) front.1 ∙ ap (λ (z : Object). z ∷ (xs ++ front.0)) (sym told.0),
            front.2 ∙ ap (λ n. each_from opened_line n front.0 ++ v) place,
          )
      | inr past ↦
          let place : o + length (y ∷ ys) ≡ (o + 1) + length ys = omega arith in
          inr (past.0, past.1, ap (λ n. each_from opened_line n (past.0 ∷ past.1) ++ u) place ∙ past.2)
    ]

-- FIRST LINES

pub folded_form : (s : Opening) → IsReadableOpening s → FoldedLines.Good (s.first_entry, s.first_action)
folded_form s r = grind arith
