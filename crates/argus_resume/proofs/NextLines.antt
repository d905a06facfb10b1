-- No listing is longer than what was taken if the next line is at fault, and a listing is taken whole.
use Rattle.std.proofs.{lemmas.{Bool.false≢true, List.{reverse-append, take-append-drop}}, Common.{◌≡◌, ◌≢◌, ℕ, ◌+◌}}
use Rattle.std.proofs.Common.{◌<◌, ◌^◌, List, [], ◌∷◌, ◌++◌, length, refl, sym, ap, ◌∙◌, subst, inl, inr, arith}
use Rattle.std.proofs.Common.{append_assoc, append-nil, length-append, true, reverse, Bool, drop, take}
use Rattle.std.specs.{Io.KnownBytes.{Consumes, IsAtEnd}, Prelude.{Option, Some, codes}, Str.IsUtf8}
use Rattle.argus_entries.specs.{Entry.PlainEntry, EntrySpelling.{entry_line, entry_spelling}}
use Rattle.argus_entries.proofs.Lines.{one_line}
use Rattle.argus_journal.specs.{JournalView.{JournalView, next_entry, reply_to}, Legal.Legal, Opening.Opening}
use Rattle.argus_journal.specs.Opening.{is_sound}
use Rattle.argus_listings.specs.Listing.{each_from}
use Rattle.argus_reading.specs.{OpeningLanguages.{FoldedLines, ObjectLines}, Line.{IsEntryLine, IsReadable}}
use Rattle.argus_resume.specs.{JournalText.{AreReadable, IsReadableJournal, journal_text}, Resumed.IsResumed}
use Rattle.argus_resume.specs.{Laws.{EndsInFeed, IsListable}, declared.read_end.ReadEnd.ReadEnd}
use Rattle.argus_resume.specs.declared.{resumed.Resumed.Resumed, line_fault.LineFault.LineFault}
use Rattle.argus_resume.specs.{declared.taken_end.TakenEnd.TakenEnd, Lines.{IsLineFault, IsLineOf, IsNextOfOpening}}
use Rattle.argus_resume.specs.{Lines.IsOfOpening, Taking.{EndsReading, EndsTaking, HasNoFeed, IsFaulty, IsTorn}}
use Rattle.argus_resume.proofs.{Readable.readable_by_calls, Stages.front_same, Clean.{IsClean, entry_clean}}
use Rattle.argus_resume.proofs.{Clean.{folded_clean, object_clean}, Fronts.{feed_told, folded_form, no_line}}
use Rattle.argus_resume.proofs.{Fronts.{no_opening_line, object_form}, Openings.{folded_line_form, object_line_form}}
use Rattle.argus_resume.proofs.{Openings.of_opening, Longer.{Behind, compared, folded_begins, no_opening_left}}
use Rattle.argus_resume.proofs.Longer.{object_begins, older_legal, older_readable, with_entries, with_objects}
use Rattle.argus_resume.proofs.Longer.{with_opening}
use Rattle.argus_texts.proofs.Lists.{head_of, tail_of}
use Rattle.argus_resume.specs.declared.read_end.ReadEnd.TheVariants as read
use Rattle.argus_resume.specs.declared.line_fault.LineFault.TheVariants as fault
use Rattle.argus_resume.specs.declared.taken_end.TakenEnd.TheVariants as end

-- what can be listed can be read: of its replies nothing is asked
pub listed_readable : (journal : JournalView) → IsListable journal → IsReadableJournal journal
listed_readable journal listable = grind (arith, readable_by_calls)

-- what is left of a listing is the text of what the journal has beyond what was taken
pub left_behind : (taken other : JournalView) (left : List ℕ) → IsReadableJournal taken → IsListable other
    → journal_text other ≡ journal_text taken ++ left → Behind taken other left
left_behind taken other left r listable e =
    compared taken other left r (listed_readable other listable) listable.numbers (sym e)

-- THE NEXT LINE

-- the line is the one that a legal journal has next
record NextEntry (taken : JournalView) (line : List ℕ) : Type 0 where
  z : PlainEntry
  low : next_entry taken < 2 ^ 64
  readable : IsReadable z
  is : line ≡ entry_spelling (next_entry taken) z
  answered : z.reply ≡ reply_to taken z.call
  sound : is_sound taken.opening ≡ true

its_line : (taken : JournalView) (line : List ℕ) → NextEntry taken line → IsEntryLine line
its_line taken line n = grind arith

its_entry : (taken : JournalView) (line : List ℕ) (n : NextEntry taken line) (m : ℕ) (d : PlainEntry) → m < 2 ^ 64
    → IsLineOf m d line → (m ≡ next_entry taken) × (d ≡ n.z)
its_entry taken line n m d h of =
    one_line 16 m (next_entry taken) d n.z h n.low (of.readable.0.0, of.readable.1) (n.readable.0.0, n.readable.1)
    (sym of.is ∙ n.is)

pub no_entry_of_opening : (n : ℕ) (e : PlainEntry) (line : List ℕ) → n < 2 ^ 64 → line ≡ entry_spelling n e
    → IsOfOpening line → ⊥
no_entry_of_opening n e line h is of = no_opening_line n e [] (112 ∷ 101 ∷ 110 ∷ 105 ∷ 110 ∷ 103 ∷ 32 ∷ of.rest) h
    (sym of.reads.is ∙ is ∙ sym (append-nil (entry_spelling n e)))

no_entry_fault : (taken : JournalView) (line : List ℕ) → NextEntry taken line → (f : LineFault)
    → IsLineFault f taken line → ⊥
no_entry_fault taken line n (fault.NoText at) h =
    h.0 (subst IsUtf8 (sym n.is) (entry_clean (next_entry taken) n.z n.low n.readable).1)
no_entry_fault taken line n fault.NotAnOpening h = no_entry_of_opening (next_entry taken) n.z line n.low n.is h.1
no_entry_fault taken line n (fault.NoLine at) h =
    elim h.2 [ inl f ↦ f.fault.refused (its_line taken line n) | inr l ↦ l.refused (its_line taken line n) ]
no_entry_fault taken line n fault.NotNext h = h.other (its_entry taken line n h.number h.entry h.in_range h.of).0
no_entry_fault taken line n fault.NotSound h = false≢true (sym h.unsound ∙ n.sound)
no_entry_fault taken line n (fault.NotTheReply reply) h =
    let same = (its_entry taken line n (next_entry taken) h.entry n.low h.of).1 in
    h.other (ap (λ (x : PlainEntry). x.reply) same ∙ n.answered
    ∙ ap (λ (x : PlainEntry). reply_to taken x.call) (sym same) ∙ sym h.gives)

no_opening_fault : (taken : JournalView) (line : List ℕ) → IsNextOfOpening taken line → IsClean line → IsOfOpening line
    → next_entry taken < 2 ^ 64 → (f : LineFault) → IsLineFault f taken line → ⊥
no_opening_fault taken line next c of low (fault.NoText at) h = h.0 c.1
no_opening_fault taken line next c of low fault.NotAnOpening h = h.2 next
no_opening_fault taken line next c of low (fault.NoLine at) h = h.1 of
no_opening_fault taken line next c of low fault.NotNext h =
    no_entry_of_opening h.number h.entry line h.in_range h.of.is of
no_opening_fault taken line next c of low fault.NotSound h =
    no_entry_of_opening (next_entry taken) h.entry line low h.of.is of
no_opening_fault taken line next c of low (fault.NotTheReply reply) h =
    no_entry_of_opening (next_entry taken) h.entry line low h.of.is of

module _ (taken other : JournalView) (listable : IsListable other) (line more : List ℕ) (whole : HasNoFeed line) where
  behind_entry : taken.opening ≡ other.opening → (zs : List PlainEntry) → other.entries ≡ reverse zs ++ taken.entries
      → line ++ 10 ∷ more ≡ each_from entry_line (next_entry taken) zs → NextEntry taken line
  behind_entry o [] b is = absurd (let h = ap length is in omega (arith, h, length-append line (10 ∷ more)))
  behind_entry o (z ∷ zs) b is = let all : other.entries ≡ reverse zs ++ (z ∷ taken.entries) =
      b ∙ ap (λ (x : List PlainEntry). x ++ taken.entries) (reverse-append (z ∷ []) zs)
      ∙ append_assoc (reverse zs) (z ∷ []) taken.entries in
      let first : taken.opening.first_entry ≡ other.opening.first_entry = ap (λ (k : Opening). k.first_entry) o in
      let low : next_entry taken < 2 ^ 64 =
      omega (arith, first, listable.numbers, ap length all, length-append (reverse zs) (z ∷ taken.entries)) in
      let readable = older_readable (reverse zs) (z ∷ taken.entries)
      (subst AreReadable all (listed_readable other listable).entries) in
      let legal = older_legal taken.opening (reverse zs) (z ∷ taken.entries)
      (subst (λ (s : Opening). Legal s (reverse zs ++ (z ∷ taken.entries))) (sym o)
      (subst (Legal other.opening) all listable.legal)) in
      let n = next_entry taken in
      let told = feed_told line (entry_spelling n z) more (each_from entry_line (n + 1) zs) whole
      (entry_clean n z low readable.0).0
      (is ∙ append_assoc (entry_spelling n z) (10 ∷ []) (each_from entry_line (n + 1) zs)) in
      record {
        z = z;
        low = low;
        readable = readable.0;
        is = told.0;
        answered = legal.0;
        sound = subst (λ (s : Opening). is_sound s ≡ true) (sym o) listable.sound;
      }

  -- the line behind what was taken is at no fault
  pub no_fault : Behind taken other (line ++ 10 ∷ more) → (f : LineFault) → IsLineFault f taken line → ⊥
  no_fault (with_entries o zs b is) f h = no_entry_fault taken line (behind_entry o zs b is) f h
  no_fault (with_opening first r rest is) f h =
      let s = other.opening in
      let form = FoldedLines.form (s.first_entry, s.first_action) in
      let good = folded_form s r in
      let clean = folded_clean (s.first_entry, s.first_action) good in
      let told = feed_told line (codes "opening " ++ form) more rest whole clean.0
      (is ∙ ap (λ x. x ++ rest) (folded_line_form s.first_entry s.first_action)
      ∙ append_assoc (codes "opening " ++ form) (10 ∷ []) rest) in
      no_opening_fault taken line (inl (record {
        entries = s.first_entry;
        actions = s.first_action;
        first = first;
        some = r.some;
        entries_within = r.limits.entries;
        actions_within = r.limits.actions;
        is = ap (λ x. x ++ 10 ∷ []) told.0 ∙ sym (folded_line_form s.first_entry s.first_action);
      }))
      (subst IsClean (sym told.0) clean) (subst IsOfOpening (sym told.0) (of_opening form)) (omega (arith, first)) f h
  no_fault (with_objects r none z readable room rest is) f h =
      let n = length taken.opening.objects in
      let form = ObjectLines.form (n, z) in
      let good = (object_form n z room readable).good in
      let clean = object_clean (n, z) good in
      let told = feed_told line (codes "opening " ++ form) more rest whole clean.0
      (is ∙ ap (λ x. x ++ rest) (object_line_form n z) ∙ append_assoc (codes "opening " ++ form) (10 ∷ []) rest) in
      no_opening_fault taken line (inr (record {
        object = z;
        opened = r.some;
        none = none;
        room = room;
        readable = readable;
        is = ap (λ x. x ++ 10 ∷ []) told.0 ∙ sym (object_line_form n z);
      })) (subst IsClean (sym told.0) clean) (subst IsOfOpening (sym told.0) (of_opening form))
      (omega (arith, r.limits.entries, ap length none)) f h

-- THE LAWS

-- a front that ends in a line feed has the whole first line
pub front_line : (x line more rest : List ℕ) → HasNoFeed line → (x ++ 10 ∷ []) ++ rest ≡ line ++ 10 ∷ more
    → (others : List ℕ) × (x ++ 10 ∷ [] ≡ line ++ 10 ∷ others)
front_line [] [] more rest n e = ([], refl)
front_line (c ∷ x) [] more rest n e = (x ++ 10 ∷ [], ap (λ b. b ∷ (x ++ 10 ∷ [])) (head_of e))
front_line [] (b ∷ line) more rest n e = absurd (n.0 (sym (head_of e)))
front_line (c ∷ x) (b ∷ line) more rest n e =
    let r = front_line x line more rest n.1 (tail_of e) in
    (r.0, ap (λ z. c ∷ z) r.1 ∙ ap (λ k. k ∷ (line ++ 10 ∷ r.0)) (head_of e))

pub no_longer : (taken : JournalView) (left : List ℕ) (f : LineFault) → IsReadableJournal taken
    → IsFaulty taken left f → (front rest : List ℕ) → left ≡ front ++ rest → EndsInFeed front
    → (other : JournalView) → IsListable other → journal_text other ≡ journal_text taken ++ front → ⊥
no_longer taken left f r faulty front rest parts ends other listable e =
    let first = front_line ends.0 faulty.line faulty.more rest faulty.whole
    (ap (λ x. x ++ rest) (sym ends.1) ∙ sym parts ∙ faulty.is) in
    let all : front ≡ faulty.line ++ 10 ∷ first.0 = ends.1 ∙ first.1 in
    let behind = left_behind taken other front r listable e in
    no_fault taken other listable faulty.line first.0 faulty.whole (subst (Behind taken other) all behind) f faulty.says

-- what is left is at no fault, whatever of the listing comes after it
pub none_within : (taken : JournalView) (left : List ℕ) (f : LineFault) → IsReadableJournal taken
    → IsFaulty taken left f → (other : JournalView) (rest : List ℕ) → IsListable other
    → journal_text other ≡ journal_text taken ++ (left ++ rest) → ⊥
none_within taken left f r faulty other rest listable e =
    let all : left ++ rest ≡ faulty.line ++ 10 ∷ (faulty.more ++ rest) =
    ap (λ (x : List ℕ). x ++ rest) faulty.is ∙ append_assoc faulty.line (10 ∷ faulty.more) rest in
    no_fault taken other listable faulty.line (faulty.more ++ rest) faulty.whole
    (subst (Behind taken other) all (left_behind taken other (left ++ rest) r listable e)) f faulty.says

pub behind_none : (taken other : JournalView) (t : List ℕ) → t ≡ [] → Behind taken other t → taken ≡ other
behind_none taken other t none (with_entries o [] b is) = grind arith
behind_none taken other t none (with_entries o (z ∷ zs) b is) = grind (arith, no_line)
behind_none taken other t none (with_opening first r rest is) = grind (arith, folded_begins, no_opening_left)
behind_none taken other t none (with_objects r gone z readable room rest is) =
    let begins = object_begins (length taken.opening.objects) z rest in
    absurd (no_opening_left begins.0 (sym none ∙ is ∙ begins.1))

pub feed_in : (a x : List ℕ) → HasNoFeed ((a ++ 10 ∷ []) ++ x) → ⊥
feed_in [] x h = h.0 refl
feed_in (b ∷ a) x h = feed_in a x h.1

behind_torn : (taken other : JournalView) (t : List ℕ) → IsTorn t → Behind taken other t → ⊥
behind_torn taken other t torn (with_entries o [] b is) = torn.0 is
behind_torn taken other t torn (with_entries o (z ∷ zs) b is) = grind (arith, feed_in)
behind_torn taken other t torn (with_opening first r rest is) = grind (arith, feed_in, folded_line_form)
behind_torn taken other t torn (with_objects r gone z readable room rest is) = grind (arith, feed_in, object_line_form)

pub taken_back : (taken : JournalView) (left : List ℕ) (e : TakenEnd) → IsReadableJournal taken
    → EndsTaking e taken left → e ≢ end.OutOfMemory → (other : JournalView) → IsListable other
    → journal_text other ≡ journal_text taken ++ left → (e ≡ end.Whole) × (taken ≡ other)
taken_back taken left end.Whole r h n other listable e =
    (refl, behind_none taken other left h (left_behind taken other left r listable e))
taken_back taken left end.Torn r h n other listable e =
    absurd (behind_torn taken other left h (left_behind taken other left r listable e))
taken_back taken left (end.Fault f) r h n other listable e = absurd (no_fault taken other listable h.line h.more h.whole
    (subst (Behind taken other) h.is (left_behind taken other left r listable e)) f h.says)
taken_back taken left end.OutOfMemory r h n other listable e = absurd (n refl)

-- A READER

module _ (journal listed : JournalView) (r : IsReadableJournal journal) (listable : IsListable listed)
    (left behind : List ℕ) (e : journal_text listed ≡ journal_text journal ++ (left ++ behind)) where
  all_behind : Behind journal listed (left ++ behind)
  all_behind = left_behind journal listed (left ++ behind) r listable e

  -- what is left and what the reader then has is nothing
  ended : (end : ReadEnd) (has : Option (List ℕ)) (failed : Bool) → has ≡ Some behind
      → EndsReading end journal left has failed → end ≢ read.OutOfMemory → end ≢ read.Read
      → (end ≡ read.Whole) × (journal ≡ listed)
  ended read.Whole has failed is h n m =
      let none : behind ≡ [] = subst IsAtEnd is h.1 in
      let all : left ++ behind ≡ [] = ap (λ (x : List ℕ). x ++ behind) h.0 ∙ none in
      (refl, behind_none journal listed (left ++ behind) all all_behind)
  ended read.Torn has failed is h n m =
      let none : behind ≡ [] = subst IsAtEnd is h.1 in
      let all : left ++ behind ≡ left = ap (λ (x : List ℕ). left ++ x) none ∙ append-nil left in
      absurd (behind_torn journal listed left h.0 (subst (Behind journal listed) all all_behind))
  ended (read.Fault f) has failed is h n m = absurd (none_within journal left f r h.0 listed behind listable e)
  ended read.OutOfMemory has failed is h n m = absurd (n refl)
  ended read.Read has failed is h n m = absurd (m refl)

pub consumed_front : (whole bytes : List ℕ) (has : Option (List ℕ)) → Consumes (Some whole) has bytes
    → (behind : List ℕ) × (has ≡ Some behind) × (whole ≡ bytes ++ behind)
consumed_front whole bytes p h = grind arith

pub resumed_back : (has : Option (List ℕ)) (failed : Bool) (resumed : Resumed) (listed : JournalView)
    → IsListable listed → IsResumed (Some (journal_text listed)) has failed resumed → resumed.end ≢ read.OutOfMemory
    → resumed.end ≢ read.Read → (resumed.end ≡ read.Whole) × (resumed.guardian ≡ listed)
resumed_back has failed resumed listed listable h n m =
    let t = h.taken in
    let front = consumed_front (journal_text listed) t.read has t.consumed in
    let left = drop resumed.bytes t.read in
    let all : journal_text listed ≡ journal_text h.journal ++ (left ++ front.0) =
    front.2 ∙ ap (λ (x : List ℕ). x ++ front.0) (sym (take-append-drop resumed.bytes t.read))
    ∙ append_assoc (take resumed.bytes t.read) left front.0
    ∙ ap (λ (x : List ℕ). x ++ (left ++ front.0)) (sym t.text) in
    let end = ended h.journal listed h.readable listable left front.0 all resumed.end has failed front.1 t.end n m in
    let sound : is_sound h.journal.opening ≡ true =
    subst (λ (j : JournalView). is_sound j.opening ≡ true) (sym end.1) listable.sound in
    (end.0, h.guardian ∙ front_same h.journal sound ∙ end.1)
