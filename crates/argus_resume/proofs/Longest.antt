-- No listing with which a reader's text begins is longer than that of the guardian that was made from it.
use Rattle.std.proofs.{lemmas.List.take-append-drop, Common.{◌≡◌, ◌≢◌, ℕ, ◌+◌, ◌<◌, ◌≤◌, ◌⊎◌, Bool, List, [], ◌∷◌}}
use Rattle.std.proofs.Common.{◌++◌, length, refl, sym, ap, ◌∙◌, subst, inl, inr, arith, append_assoc, append-nil}
use Rattle.std.proofs.{Common.{length-append, true, drop, take}, Math.Seq.take-append_seam}
use Rattle.std.specs.{Io.KnownBytes.IsAtEnd, Prelude.{Option, Some, codes}}
use Rattle.argus_contents.specs.{Content.PlainContent, Shape.PlainShape}
use Rattle.argus_entries.specs.{Entry.PlainEntry, EntrySpelling.{entry_line, entry_spelling}}
use Rattle.argus_journal.specs.{JournalView.{JournalView, next_entry}, Opening.{Opening, empty, is_sound}}
use Rattle.argus_listings.specs.Listing.{each_from, entries_text, opening_text}
use Rattle.argus_reading.specs.OpeningLanguages.{FoldedLines, ObjectLines}
use Rattle.argus_resume.specs.{JournalText.{IsReadableJournal, IsReadableOpening, journal_text}, Laws.IsListable}
use Rattle.argus_resume.specs.{Resumed.IsResumed, SoundFront.{opening_front, sound_count, sound_front}, Stage.lines_of}
use Rattle.argus_resume.specs.{Taking.EndsReading, declared.{read_end.ReadEnd.ReadEnd, resumed.Resumed.Resumed}}
use Rattle.argus_resume.proofs.{Ends.fronts_shorter, Longer.{same_parts, with_entries, with_objects, with_opening}}
use Rattle.argus_resume.proofs.Longer.{Behind, Beyond, beyond, more_objects, numbers, other_opened, same_opening}
use Rattle.argus_resume.proofs.NextLines.{behind_none, consumed_front, feed_in, front_line, left_behind, no_fault}
use Rattle.argus_resume.proofs.{Openings.{folded_line_form, object_line_form}, Sound.count_most, Texts.opened_text}
use Rattle.argus_resume.proofs.Stages.{front_same, nothing_text}
use Rattle.argus_texts.proofs.Lists.{head_of, tail_of}
use Rattle.argus_resume.specs.declared.read_end.ReadEnd.TheVariants as read

-- TWO FRONTS OF A TEXT

-- one of two fronts of a text begins the other
fronts : (a b x y : List ℕ) → a ++ x ≡ b ++ y
    → ((t : List ℕ) × (b ≡ a ++ t) × (x ≡ t ++ y)) ⊎ ((t : List ℕ) × (a ≡ b ++ t))
fronts [] b x y e = inl (b, refl, e)
fronts (c ∷ a) [] x y e = inr (c ∷ a, refl)
fronts (c ∷ a) (d ∷ b) x y e = grind (arith, fronts a b x y (tail_of e), tail_of, head_of)

-- BEHIND WHAT WAS TAKEN

-- the text begins with a whole line
abbrev HasLine : List ℕ → Type 0
HasLine t = (line : List ℕ) × (more : List ℕ) × (t ≡ (line ++ 10 ∷ []) ++ more)

-- what a journal has behind what was taken is nothing, or begins with a whole line
behind_line : (taken other : JournalView) (t : List ℕ) → Behind taken other t → (t ≡ []) ⊎ HasLine t
behind_line taken other t (with_entries o [] b is) = inl is
behind_line taken other t (with_entries o (z ∷ zs) b is) =
    inr (entry_spelling (next_entry taken) z, each_from entry_line (next_entry taken + 1) zs, is)
behind_line taken other t (with_opening first r rest is) =
    let s = other.opening in
    inr (
      codes "opening " ++ FoldedLines.form (s.first_entry, s.first_action),
      rest,
      is ∙ ap (λ x. x ++ rest) (folded_line_form s.first_entry s.first_action),
    )
behind_line taken other t (with_objects r gone z readable room rest is) =
    let n = length taken.opening.objects in
    inr (codes "opening " ++ ObjectLines.form (n, z), rest, is ∙ ap (λ x. x ++ rest) (object_line_form n z))

module _ (journal other : JournalView) (listable : IsListable other) (left behind t rest : List ℕ)
    (b : Behind journal other t) (e : left ++ behind ≡ t ++ rest) where
  -- no line of it is left at such an end
  no_line_left : HasLine t → (end : ReadEnd) (has : Option (List ℕ)) (failed : Bool) → has ≡ Some behind
      → EndsReading end journal left has failed → end ≢ read.OutOfMemory → end ≢ read.Read → ⊥
  no_line_left l read.Whole has failed is h n m =
      let none : behind ≡ [] = subst IsAtEnd is h.1 in
      let parts : left ++ behind ≡ ((l.0 ++ 10 ∷ []) ++ l.1) ++ rest = e ∙ ap (λ x. x ++ rest) l.2 in
      omega (
        arith,
        ap length parts,
        ap length none,
        ap length h.0,
        length-append left behind,
        length-append ((l.0 ++ 10 ∷ []) ++ l.1) rest,
        length-append (l.0 ++ 10 ∷ []) l.1,
        length-append l.0 (10 ∷ []),
      )
  no_line_left l read.Torn has failed is h n m = grind (arith, append-nil, append_assoc, feed_in)
  no_line_left l (read.Fault f) has failed is h n m =
      let faulty = h.0 in
      let parts : (l.0 ++ 10 ∷ []) ++ (l.1 ++ rest) ≡ faulty.line ++ 10 ∷ (faulty.more ++ behind) =
      sym (append_assoc (l.0 ++ 10 ∷ []) l.1 rest) ∙ ap (λ x. x ++ rest) (sym l.2) ∙ sym e
      ∙ ap (λ (x : List ℕ). x ++ behind) faulty.is ∙ append_assoc faulty.line (10 ∷ faulty.more) behind in
      let first = front_line l.0 faulty.line (faulty.more ++ behind) (l.1 ++ rest) faulty.whole parts in
      let all : t ≡ faulty.line ++ 10 ∷ (first.0 ++ l.1) =
      l.2 ∙ ap (λ x. x ++ l.1) first.1 ∙ append_assoc faulty.line (10 ∷ first.0) l.1 in
      no_fault journal other listable faulty.line (first.0 ++ l.1) faulty.whole (subst (Behind journal other) all b)
      f faulty.says
  no_line_left l read.OutOfMemory has failed is h n m = n refl
  no_line_left l read.Read has failed is h n m = m refl

-- AMONG WHAT WAS TAKEN

empty_sound : (s : Opening) → s ≡ empty → is_sound s ≡ true
empty_sound s e = ap is_sound e

-- a journal without an opening whose listing begins that of one with an opening has no line
none_before : (other journal : JournalView) (t : List ℕ) → other.opening ≡ empty → IsReadableOpening journal.opening
    → Behind other journal t → length (journal_text other) ≡ 0
none_before other journal t none r p = grind (arith, nothing_text)

-- the lines of the longest sound front are in the listing of the journal with it
front_text : (journal : JournalView) → 0 < journal.opening.first_entry
    → length (lines_of (opening_front journal.opening (sound_count journal.opening (length journal.opening.objects))))
    ≤ length (journal_text (sound_front journal))
front_text journal h = grind (arith, opened_text, length-append)

module _ (journal other : JournalView) (readable : IsReadableJournal journal) (listable : IsListable other)
    (t : List ℕ) (e : journal_text other ++ t ≡ journal_text journal) where
  -- a sound opening is kept whole
  by_sound : is_sound journal.opening ≡ true → length (journal_text other) ≤ length (journal_text (sound_front journal))
  by_sound h = omega (
    arith,
    ap length e,
    length-append (journal_text other) t,
    ap (λ (j : JournalView). length (journal_text j)) (front_same journal h),
  )

  -- the other's opening begins that of the journal
  by_objects : (q : IsReadableOpening other.opening) (r : IsReadableOpening journal.opening)
      (zs : List (PlainShape × Option PlainContent)) → Beyond other journal t zs
      → length (journal_text other) ≤ length (journal_text (sound_front journal))
  by_objects q r [] u =
      by_sound (subst (λ (s : Opening). is_sound s ≡ true) (same_opening other journal t q r e u) listable.sound)
  by_objects q r (z ∷ zs) u =
      let s = journal.opening in
      let m = length other.opening.objects in
      let n = sound_count s (length s.objects) in
      let alike = numbers other journal t q r e in
      let first : take m s.objects ≡ other.opening.objects =
      ap (λ (x : List (PlainShape × Option PlainContent)). take m x) u.objects
      ∙ take-append_seam other.opening.objects (z ∷ zs) in
      let front : other.opening ≡ opening_front s m =
      same_parts other.opening (opening_front s m) (sym first) alike.1 alike.0 in
      let low : m ≤ length s.objects =
      omega (arith, ap length u.objects, length-append other.opening.objects (z ∷ zs)) in
      let most : m ≤ n =
      count_most s (length s.objects) m low (subst (λ (k : Opening). is_sound k ≡ true) front listable.sound) in
      let gone = (more_objects other journal t q r e z zs u).0 in
      let text : journal_text other ≡ lines_of (opening_front s m) =
      ap (λ (x : List PlainEntry). opening_text other.opening ++ entries_text other.opening x) gone
      ∙ opened_text other.opening q.some ∙ ap lines_of front in
      omega (arith, ap length text, fronts_shorter s m n most, front_text journal r.some)

  -- no listing with which that of the journal begins is longer than that of its sound front
  front_longest : length (journal_text other) ≤ length (journal_text (sound_front journal))
  front_longest = elim readable.opening [
    | inl none ↦ by_sound (empty_sound journal.opening none)
    | inr r ↦ elim listable.opening [
      | inl none ↦
          omega (arith, none_before other journal t none r (other_opened other journal t none r e))
      | inr q ↦ let more = beyond other journal t q r e in by_objects q r more.0 more.1
    ]
  ]

-- THE LAW

pub longest_resumed : (text : List ℕ) (has : Option (List ℕ)) (failed : Bool) (resumed : Resumed)
    → IsResumed (Some text) has failed resumed → resumed.end ≢ read.OutOfMemory → resumed.end ≢ read.Read
    → (other : JournalView) (rest : List ℕ) → IsListable other → text ≡ journal_text other ++ rest
    → length (journal_text other) ≤ length (journal_text resumed.guardian)
longest_resumed text has failed resumed h n m other rest listable e =
    let t = h.taken in
    let front = consumed_front text t.read has t.consumed in
    let left = drop resumed.bytes t.read in
    let all : text ≡ journal_text h.journal ++ (left ++ front.0) =
    front.2 ∙ ap (λ (x : List ℕ). x ++ front.0) (sym (take-append-drop resumed.bytes t.read))
    ∙ append_assoc (take resumed.bytes t.read) left front.0
    ∙ ap (λ (x : List ℕ). x ++ (left ++ front.0)) (sym t.text) in
    let guardian : length (journal_text (sound_front h.journal)) ≡ length (journal_text resumed.guardian) =
    ap (λ (j : JournalView). length (journal_text j)) (sym h.guardian) in
    elim (fronts (journal_text h.journal) (journal_text other) (left ++ front.0) rest (sym all ∙ e)) [
      | inl longer ↦
          let b = left_behind h.journal other longer.0 h.readable listable longer.1 in
          elim (behind_line h.journal other longer.0 b) [
            | inl none ↦
                let same : other ≡ h.journal = sym (behind_none h.journal other longer.0 none b) in
                let sound = subst (λ (j : JournalView). is_sound j.opening ≡ true) same listable.sound in
                omega (
                  arith,
                  guardian,
                  ap (λ (j : JournalView). length (journal_text j)) same,
                  ap (λ (j : JournalView). length (journal_text j)) (front_same h.journal sound),
                )
            | inr line ↦
                absurd (no_line_left h.journal other listable left front.0 longer.0 rest b longer.2 line resumed.end has
                failed front.1 t.end n m)
          ]
      | inr shorter ↦
          omega (arith, guardian, front_longest h.journal other h.readable listable shorter.0 (sym shorter.1))
    ]
