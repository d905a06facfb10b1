-- A journal whose listing begins with that of another: what comes after that.
use Rattle.std.proofs.{lemmas.List.{append_cancel_left, length-reverse, reverse-append}, Common.{◌≡◌, ℕ, ◌+◌, ◌<◌, ◌≤◌}}
use Rattle.std.proofs.Common.{◌^◌, List, [], ◌∷◌, ◌++◌, length, refl, sym, ap, ◌∙◌, subst, inl, inr, arith}
use Rattle.std.proofs.Common.{append_assoc, append-nil, length-append, reverse}
use Rattle.std.specs.{Fmt.decimal, Prelude.{Option, codes}}
use Rattle.argus_contents.specs.{Content.PlainContent, Shape.PlainShape, declared.limits.TheConstants.MAX_OBJECTS}
use Rattle.argus_entries.specs.{Entry.PlainEntry, EntrySpelling.{entry_line, entry_spelling}}
use Rattle.argus_journal.specs.{JournalView.{JournalView, next_entry}, Legal.Legal, Opening.{Opening, empty}}
use Rattle.argus_journal.specs.Opening.{opening_at}
use Rattle.argus_listings.specs.Listing.{each_from, entries_text, folded_line, opened_line, opening_text}
use Rattle.argus_reading.specs.OpeningLanguages.{FoldedLines, ObjectLines}
use Rattle.argus_reading.proofs.OpeningParts.{after_clear, before_clear}
use Rattle.argus_resume.specs.JournalText.{AreReadable, AreReadableObjects, IsReadableJournal, IsReadableObject}
use Rattle.argus_resume.specs.{JournalText.{IsReadableOpening, journal_text}, Stage.lines_of}
use Rattle.argus_resume.proofs.{Clean.folded_clean, Openings.{folded_line_form, object_line_form}, Fronts.entries_front}
use Rattle.argus_resume.proofs.Fronts.{folded_form, lines_told, no_opening_line, objects_front}
use Rattle.argus_texts.proofs.Lists.{tail_of}

-- LISTS FROM THE NEWEST ON

readable-append : (xs ys : List PlainEntry) → AreReadable xs → AreReadable ys → AreReadable (xs ++ ys)
readable-append [] ys r s = s
readable-append (x ∷ xs) ys r s = (r.0, readable-append xs ys r.1 s)

readable-reverse : (xs : List PlainEntry) → AreReadable xs → AreReadable (reverse xs)
readable-reverse [] r = tt
readable-reverse (x ∷ xs) r = subst AreReadable (sym (reverse-append (x ∷ []) xs))
    (readable-append (reverse xs) (x ∷ []) (readable-reverse xs r.1) (r.0, tt))

pub older_readable : (newer older : List PlainEntry) → AreReadable (newer ++ older) → AreReadable older
older_readable [] older r = r
older_readable (x ∷ newer) older r = older_readable newer older r.1

pub older_legal : (s : Opening) (newer older : List PlainEntry) → Legal s (newer ++ older) → Legal s older
older_legal s [] older l = l
older_legal s (x ∷ newer) older l = older_legal s newer older l.1

twice_reversed : {A : Type 0} (xs : List A) → reverse (reverse xs) ≡ xs
twice_reversed [] = refl
twice_reversed (x ∷ xs) = ap reverse (reverse-append (x ∷ []) xs) ∙ reverse-append (reverse xs) (x ∷ [])
    ∙ ap (λ t. x ∷ t) (twice_reversed xs)

-- the entries of a journal, from those of another and what came behind them
entries_behind : (j k zs : List PlainEntry) → reverse j ≡ reverse k ++ zs → j ≡ reverse zs ++ k
entries_behind j k zs e = sym (twice_reversed j) ∙ ap reverse e ∙ reverse-append (reverse k) zs
    ∙ ap (λ t. reverse zs ++ t) (twice_reversed k)

-- HOW TWO LISTINGS STAND TO EACH OTHER

-- what the other journal has behind this one, whose listing begins its own: entries, its whole listing, or objects
pub data Behind (taken other : JournalView) (t : List ℕ) : Type 0 where
  with_entries : taken.opening ≡ other.opening → (zs : List PlainEntry) → other.entries ≡ reverse zs ++ taken.entries
      → t ≡ each_from entry_line (next_entry taken) zs → Behind taken other t
  with_opening : next_entry taken ≡ 0 → IsReadableOpening other.opening
      → (rest : List ℕ) → t ≡ folded_line other.opening.first_entry other.opening.first_action ++ rest
      → Behind taken other t
  with_objects : IsReadableOpening taken.opening → taken.entries ≡ []
      → (z : PlainShape × Option PlainContent) → IsReadableObject z → length taken.opening.objects < MAX_OBJECTS
      → (rest : List ℕ) → t ≡ opened_line (length taken.opening.objects) z ++ rest → Behind taken other t

opening_none : (s : Opening) → s ≡ empty → opening_text s ≡ []
opening_none s e = ap opening_text e

opening_lines : (s : Opening) → 0 < s.first_entry → opening_text s ≡ lines_of s
opening_lines s h = grind arith

entries_from : (s : Opening) (n : ℕ) (j : List PlainEntry) → s.first_entry ≡ n
    → entries_text s j ≡ each_from entry_line n (reverse j)
entries_from s n j e = ap (λ k. each_from entry_line k (reverse j)) e

-- the entries' part of both, where the openings are the same
entries_part : (taken other : JournalView) (t : List ℕ) → taken.opening ≡ other.opening → AreReadable taken.entries
    → AreReadable other.entries → next_entry other ≤ 2 ^ 64
    → entries_text taken.opening taken.entries ++ t ≡ entries_text other.opening other.entries → Behind taken other t
entries_part taken other t o r s h e =
    let first : taken.opening.first_entry ≡ other.opening.first_entry = ap (λ (k : Opening). k.first_entry) o in
    let n = taken.opening.first_entry in
    let front = entries_front n (reverse taken.entries) (reverse other.entries) t (readable-reverse taken.entries r)
    (readable-reverse other.entries s) (omega (arith, first, h, length-reverse other.entries))
    (e ∙ entries_from other.opening n other.entries (sym first)) in
    let place : n + length (reverse taken.entries) ≡ next_entry taken = omega (arith, length-reverse taken.entries) in
    with_entries o front.0 (entries_behind other.entries taken.entries front.0 front.1)
    (front.2 ∙ ap (λ k. each_from entry_line k front.0) place)

-- a list of entries' lines doesn't begin as an opening's line
no_opening_text : (n : ℕ) (xs : List PlainEntry) (t y : List ℕ) → n < 2 ^ 64
    → each_from entry_line n xs ++ t ≡ codes "opening " ++ y → (xs ≡ []) × (t ≡ codes "opening " ++ y)
no_opening_text n [] t y h e = (refl, e)
no_opening_text n (x ∷ xs) t y h e = absurd (no_opening_line n x (10 ∷ (each_from entry_line (n + 1) xs ++ t))
    (112 ∷ 101 ∷ 110 ∷ 105 ∷ 110 ∷ 103 ∷ 32 ∷ y) h
    (sym e ∙ parted (entry_spelling n x) (each_from entry_line (n + 1) xs) t))
  where
    parted : (a b c : List ℕ) → ((a ++ 10 ∷ []) ++ b) ++ c ≡ a ++ 10 ∷ (b ++ c)
    parted a b c = simp append_assoc

-- a line of an opening, and what is behind it, begin so
line_begins : (form line rest : List ℕ) → line ≡ (codes "opening " ++ form) ++ 10 ∷ []
    → (y : List ℕ) × (line ++ rest ≡ codes "opening " ++ y)
line_begins form line rest e = ((form ++ 10 ∷ []) ++ rest, ap (λ t. t ++ rest) e ∙ parted (codes "opening ") form rest)
  where
    parted : (a b c : List ℕ) → ((a ++ b) ++ 10 ∷ []) ++ c ≡ a ++ ((b ++ 10 ∷ []) ++ c)
    parted a b c = simp append_assoc

pub folded_begins : (s : Opening) (rest : List ℕ) → (y : List ℕ)
    × (folded_line s.first_entry s.first_action ++ rest ≡ codes "opening " ++ y)
folded_begins s rest = line_begins (FoldedLines.form (s.first_entry, s.first_action))
    (folded_line s.first_entry s.first_action) rest (folded_line_form s.first_entry s.first_action)

pub object_begins : (o : ℕ) (z : PlainShape × Option PlainContent) (rest : List ℕ) → (y : List ℕ)
    × (opened_line o z ++ rest ≡ codes "opening " ++ y)
object_begins o z rest = line_begins (ObjectLines.form (o, z)) (opened_line o z) rest (object_line_form o z)

pub no_opening_left : (y : List ℕ) → [] ≡ codes "opening " ++ y → ⊥
no_opening_left y e = let h = ap length e in omega (arith, h, length-append (codes "opening ") y)

-- NEITHER HAS AN OPENING, OR ONE HAS

both_empty : (taken other : JournalView) (t : List ℕ) → taken.opening ≡ empty → other.opening ≡ empty
    → AreReadable taken.entries → AreReadable other.entries → next_entry other ≤ 2 ^ 64
    → journal_text taken ++ t ≡ journal_text other → Behind taken other t
both_empty taken other t a b r s h e = entries_part taken other t (a ∙ sym b) r s h
    (ap (λ x. (x ++ entries_text taken.opening taken.entries) ++ t) (sym (opening_none taken.opening a)) ∙ e
    ∙ ap (λ x. x ++ entries_text other.opening other.entries) (opening_none other.opening b))

pub other_opened : (taken other : JournalView) (t : List ℕ) → taken.opening ≡ empty → IsReadableOpening other.opening
    → journal_text taken ++ t ≡ journal_text other → Behind taken other t
other_opened taken other t a r e =
    let s = other.opening in
    let rest = each_from opened_line 0 s.objects ++ entries_text s other.entries in
    let first : taken.opening.first_entry ≡ 0 = ap (λ (k : Opening). k.first_entry) a in
    let text : journal_text other ≡ folded_line s.first_entry s.first_action ++ rest =
    ap (λ x. x ++ entries_text s other.entries) (opening_lines s r.some)
    ∙ append_assoc (folded_line s.first_entry s.first_action) (each_from opened_line 0 s.objects)
    (entries_text s other.entries) in
    let begins = folded_begins s rest in
    let both : each_from entry_line 0 (reverse taken.entries) ++ t ≡ codes "opening " ++ begins.0 =
    ap (λ x. x ++ t) (sym (entries_from taken.opening 0 taken.entries first))
    ∙ ap (λ x. (x ++ entries_text taken.opening taken.entries) ++ t) (sym (opening_none taken.opening a)) ∙ e ∙ text
    ∙ begins.1 in
    let none = no_opening_text 0 (reverse taken.entries) t begins.0 (omega arith) both in
    with_opening (omega (arith, first, ap length none.0, length-reverse taken.entries)) r rest (none.1 ∙ sym begins.1)

four_parts : (a b c d : List ℕ) → ((a ++ b) ++ c) ++ d ≡ a ++ (b ++ (c ++ d))
four_parts a b c d = simp append_assoc

taken_opened : (taken other : JournalView) (t : List ℕ) → IsReadableOpening taken.opening → other.opening ≡ empty
    → journal_text taken ++ t ≡ journal_text other → ⊥
taken_opened taken other t r b e =
    let s = taken.opening in
    let first : other.opening.first_entry ≡ 0 = ap (λ (k : Opening). k.first_entry) b in
    let rest = each_from opened_line 0 s.objects ++ (entries_text s taken.entries ++ t) in
    let text : journal_text taken ++ t ≡ folded_line s.first_entry s.first_action ++ rest =
    ap (λ x. (x ++ entries_text s taken.entries) ++ t) (opening_lines s r.some)
    ∙ four_parts (folded_line s.first_entry s.first_action) (each_from opened_line 0 s.objects)
    (entries_text s taken.entries) t in
    let begins = folded_begins s rest in
    let both : each_from entry_line 0 (reverse other.entries) ++ [] ≡ codes "opening " ++ begins.0 =
    append-nil (each_from entry_line 0 (reverse other.entries)) ∙ sym (entries_from other.opening 0 other.entries first)
    ∙ ap (λ x. x ++ entries_text other.opening other.entries) (sym (opening_none other.opening b)) ∙ sym e ∙ text
    ∙ begins.1 in
    let none = no_opening_text 0 (reverse other.entries) [] begins.0 (omega arith) both in
    no_opening_left begins.0 none.1

-- BOTH HAVE AN OPENING

-- the other journal has these objects beyond those of this one; the texts go on behind those that both have
pub record Beyond (taken other : JournalView) (t : List ℕ) (zs : List (PlainShape × Option PlainContent)) : Type 0 where
  pub objects : other.opening.objects ≡ taken.opening.objects ++ zs
  pub text : entries_text taken.opening taken.entries ++ t
      ≡ each_from opened_line (0 + length taken.opening.objects) zs ++ entries_text other.opening other.entries

folded_same : (s k : Opening) → IsReadableOpening s → IsReadableOpening k
    → FoldedLines.form (s.first_entry, s.first_action) ≡ FoldedLines.form (k.first_entry, k.first_action)
    → (s.first_entry ≡ k.first_entry) × (s.first_action ≡ k.first_action)
folded_same s k r q e =
    let f = folded_form s r in
    let g = folded_form k q in
    let one = before_clear.one s.first_entry k.first_entry (32 ∷ (codes "actions " ++ decimal s.first_action))
    (32 ∷ (codes "actions " ++ decimal k.first_action)) f.0 g.0 (inl (omega arith)) (inl (omega arith)) e in
    let two = after_clear.one s.first_action k.first_action [] [] f.1 g.1 tt tt
    (append-nil (codes "actions " ++ decimal s.first_action) ∙ tail_of one.1
    ∙ sym (append-nil (codes "actions " ++ decimal k.first_action))) in
    (one.0, two.0)

pub same_parts : (s k : Opening) → s.objects ≡ k.objects → s.first_action ≡ k.first_action
    → s.first_entry ≡ k.first_entry → s ≡ k
same_parts s k o a e = ap (λ (x : List (PlainShape × Option PlainContent)). opening_at x s.first_action s.first_entry) o
    ∙ ap (λ n. opening_at k.objects n s.first_entry) a ∙ ap (λ n. opening_at k.objects k.first_action n) e

object_there : (xs zs : List (PlainShape × Option PlainContent)) (z : PlainShape × Option PlainContent)
    → AreReadableObjects (xs ++ z ∷ zs) → IsReadableObject z
object_there [] zs z r = r.0
object_there (x ∷ xs) zs z r = object_there xs zs z r.1

module _ (taken other : JournalView) (t : List ℕ) (r : IsReadableOpening taken.opening)
    (q : IsReadableOpening other.opening) (e : journal_text taken ++ t ≡ journal_text other) where
  -- behind the first line
  told : (FoldedLines.form (taken.opening.first_entry, taken.opening.first_action)
      ≡ FoldedLines.form (other.opening.first_entry, other.opening.first_action))
      × (each_from opened_line 0 taken.opening.objects ++ (entries_text taken.opening taken.entries ++ t)
      ≡ each_from opened_line 0 other.opening.objects ++ entries_text other.opening other.entries)
  told =
      let s = taken.opening in
      let k = other.opening in
      let one = codes "opening " ++ FoldedLines.form (s.first_entry, s.first_action) in
      let two = codes "opening " ++ FoldedLines.form (k.first_entry, k.first_action) in
      let front : journal_text taken ++ t ≡ folded_line s.first_entry s.first_action
      ++ (each_from opened_line 0 s.objects ++ (entries_text s taken.entries ++ t)) =
      ap (λ x. (x ++ entries_text s taken.entries) ++ t) (opening_lines s r.some)
      ∙ four_parts (folded_line s.first_entry s.first_action) (each_from opened_line 0 s.objects)
      (entries_text s taken.entries) t in
      let whole : journal_text other ≡ folded_line k.first_entry k.first_action
      ++ (each_from opened_line 0 k.objects ++ entries_text k other.entries) =
      ap (λ x. x ++ entries_text k other.entries) (opening_lines k q.some)
      ∙ append_assoc (folded_line k.first_entry k.first_action) (each_from opened_line 0 k.objects)
      (entries_text k other.entries) in
      let lines = lines_told one two (each_from opened_line 0 s.objects ++ (entries_text s taken.entries ++ t))
      (each_from opened_line 0 k.objects ++ entries_text k other.entries)
      (folded_clean (s.first_entry, s.first_action) (folded_form s r)).0
      (folded_clean (k.first_entry, k.first_action) (folded_form k q)).0
      (ap (λ x. x ++ (each_from opened_line 0 s.objects ++ (entries_text s taken.entries ++ t)))
      (sym (folded_line_form s.first_entry s.first_action)) ∙ sym front ∙ e ∙ whole
      ∙ ap (λ x. x ++ (each_from opened_line 0 k.objects ++ entries_text k other.entries))
      (folded_line_form k.first_entry k.first_action)) in (
        append_cancel_left (codes "opening ") (FoldedLines.form (s.first_entry, s.first_action))
            (FoldedLines.form (k.first_entry, k.first_action)) lines.0,
        lines.1,
      )

  pub numbers : (taken.opening.first_entry ≡ other.opening.first_entry)
      × (taken.opening.first_action ≡ other.opening.first_action)
  numbers = folded_same taken.opening other.opening r q told.0

  -- the other has each object of this one
  pub beyond : (zs : List (PlainShape × Option PlainContent)) × Beyond taken other t zs
  beyond =
      elim (objects_front 0 taken.opening.objects other.opening.objects (entries_text taken.opening taken.entries ++ t)
      (entries_text other.opening other.entries) r.objects q.objects (omega (arith, r.limits.objects))
      (omega (arith, q.limits.objects)) told.1) [
        | inl front ↦ (front.0, record { objects = front.1; text = front.2 })
        | inr past ↦
            let n = 0 + length other.opening.objects in
            let rest = each_from opened_line (n + 1) past.1 ++ (entries_text taken.opening taken.entries ++ t) in
            let begins = object_begins n past.0 rest in
            let line : entries_text other.opening other.entries ++ [] ≡ codes "opening " ++ begins.0 =
            append-nil (entries_text other.opening other.entries) ∙ sym past.2
            ∙ append_assoc (opened_line n past.0) (each_from opened_line (n + 1) past.1)
            (entries_text taken.opening taken.entries ++ t) ∙ begins.1 in
            let none = no_opening_text other.opening.first_entry (reverse other.entries) [] begins.0
            (omega (arith, q.limits.entries)) line in
            absurd (no_opening_left begins.0 none.1)
      ]

  -- no object of either is left
  pub same_opening : Beyond taken other t [] → taken.opening ≡ other.opening
  same_opening u =
      same_parts taken.opening other.opening (sym (append-nil taken.opening.objects) ∙ sym u.objects) numbers.1
      numbers.0

  -- the other has an object more, so no entry came before it
  pub more_objects : (z : PlainShape × Option PlainContent) (zs : List (PlainShape × Option PlainContent))
      → Beyond taken other t (z ∷ zs) → (taken.entries ≡ []) × (t ≡ opened_line (length taken.opening.objects) z
      ++ (each_from opened_line ((0 + length taken.opening.objects) + 1) zs
      ++ entries_text other.opening other.entries))
  more_objects z zs u =
      let n = 0 + length taken.opening.objects in
      let rest = each_from opened_line (n + 1) zs ++ entries_text other.opening other.entries in
      let begins = object_begins n z rest in
      let line : entries_text taken.opening taken.entries ++ t ≡ opened_line n z ++ rest =
      u.text ∙ append_assoc (opened_line n z) (each_from opened_line (n + 1) zs)
      (entries_text other.opening other.entries) in
      let none = no_opening_text taken.opening.first_entry (reverse taken.entries) t begins.0
      (omega (arith, r.limits.entries)) (line ∙ begins.1) in
      let place : n ≡ length taken.opening.objects = omega arith in (
        entries_none taken.entries none.0,
        none.1 ∙ sym begins.1 ∙ ap (λ k. opened_line k z ++ rest) place,
      )
    where
      entries_none : (j : List PlainEntry) → reverse j ≡ [] → j ≡ []
      entries_none j none = sym (twice_reversed j) ∙ ap reverse none

  both_opened : AreReadable taken.entries → AreReadable other.entries → next_entry other ≤ 2 ^ 64 → Behind taken other t
  both_opened a b h = by_more beyond.0 beyond.1
    where
      by_more : (zs : List (PlainShape × Option PlainContent)) → Beyond taken other t zs → Behind taken other t
      by_more [] u = entries_part taken other t (same_opening u) a b h u.text
      by_more (z ∷ zs) u =
          let xs = taken.opening.objects in
          let more = more_objects z zs u in
          let count : length other.opening.objects ≡ length xs + length (z ∷ zs) =
          ap length u.objects ∙ length-append xs (z ∷ zs) in
          with_objects r more.0 z (object_there xs zs z (subst AreReadableObjects u.objects q.objects))
          (omega (arith, count, q.limits.objects))
          (each_from opened_line ((0 + length xs) + 1) zs ++ entries_text other.opening other.entries) more.1

-- what the other journal has behind this one
pub compared : (taken other : JournalView) (t : List ℕ) → IsReadableJournal taken → IsReadableJournal other
    → next_entry other ≤ 2 ^ 64 → journal_text taken ++ t ≡ journal_text other → Behind taken other t
compared taken other t r q h e = elim r.opening [
  | inl a ↦ elim q.opening [
    | inl b ↦ both_empty taken other t a b r.entries q.entries h e
    | inr b ↦ other_opened taken other t a b e
  ]
  | inr a ↦ elim q.opening [
    | inl b ↦ absurd (taken_opened taken other t a b e)
    | inr b ↦ both_opened taken other t a b e r.entries q.entries h
  ]
]
