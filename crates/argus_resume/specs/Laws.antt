-- The laws of what is taken.
use Rattle.std.specs.Prelude.{Bool, List, Option, Some, [], true, ℕ, ◌++◌, ◌<◌, ◌∷◌, ◌^◌, ◌≡◌, ◌≢◌, length, ◌≤◌, ◌↔◌}
use Rattle.argus_contents.specs.{Content.PlainContent, Shape.PlainShape}
use Rattle.argus_core.specs.Checkpoint.{after_checkpoint}
use Rattle.argus_entries.specs.{Call.PlainCall, Reply.plain_reply, declared.reply.Reply.Reply}
use Rattle.argus_journal.specs.{JournalView.{JournalView, after, entry_of, next_entry}, Legal.Legal}
use Rattle.argus_journal.specs.Opening.{KeepsNumbers, is_sound, opening_at}
use Rattle.argus_journal.specs.declared.limits.TheConstants.{MAX_FIRST_ENTRY}
use Rattle.argus_resume.specs.JournalText.{AreReadable, IsEmptyOrReadable, IsReadableJournal, IsReadableOpening}
use Rattle.argus_resume.specs.{JournalText.journal_text, Lines.IsLineFault, Resumed.IsResumed, SoundFront.sound_front}
use Rattle.argus_resume.specs.{ReadableCalls.{HasReadableCall, HaveReadableCalls}, Taking.{EndsTaking, IsFaulty}}
use Rattle.argus_resume.specs.{declared.line_fault.LineFault.LineFault, declared.resumed.Resumed.Resumed}
use Rattle.argus_resume.specs.declared.taken_end.TakenEnd.{TakenEnd}
use Rattle.argus_resume.specs.declared.taken_end.TakenEnd.TheVariants.{OutOfMemory, Whole}
use Rattle.argus_resume.specs.declared.line_fault.LineFault.TheVariants as fault
use Rattle.argus_resume.specs.declared.read_end.ReadEnd.TheVariants as read

-- a journal that a guardian can have and lines can spell: it is legal, its opening is sound and can
-- be read, its entries are numbered within 64 bits, and each of its calls can be read. Nothing is
-- asked of its replies
pub record IsListable (journal : JournalView) : Type 0 where
  pub opening : IsEmptyOrReadable journal.opening
  pub calls : HaveReadableCalls journal.entries
  pub legal : Legal journal.opening journal.entries
  pub sound : is_sound journal.opening ≡ true
  pub numbers : next_entry journal ≤ 2 ^ 64

-- The entries of a legal journal can be read, each with its reply, exactly if its calls can be: its
-- opening has to be sound and readable.
abbrev pub JournalsAreReadable : Type 0
JournalsAreReadable = (journal : JournalView) → Legal journal.opening journal.entries
    → is_sound journal.opening ≡ true → IsEmptyOrReadable journal.opening
    → AreReadable journal.entries ↔ HaveReadableCalls journal.entries

-- A listable journal is listable with one more call that can be read.
abbrev pub CallsLeaveListable : Type 0
CallsLeaveListable =
    (journal : JournalView) (call : PlainCall) → IsListable journal → next_entry journal < 2 ^ 64
    → HasReadableCall (entry_of journal call) → IsListable (after journal call)

-- What a checkpoint leaves of a listable journal is listable.
abbrev pub CheckpointsLeaveListable : Type 0
CheckpointsLeaveListable =
    (journal : JournalView) → IsListable journal → next_entry journal ≤ MAX_FIRST_ENTRY
    → IsListable (after_checkpoint journal)

-- Each opening of these objects can be read that is sound and within the limits, and before which an
-- entry went.
abbrev pub OpeningsAreReadable : List (PlainShape × Option PlainContent) → Type 0
OpeningsAreReadable objects = (first_action first_entry : ℕ) → 0 < first_entry
    → KeepsNumbers (opening_at objects first_action first_entry)
    → is_sound (opening_at objects first_action first_entry) ≡ true
    → IsReadableOpening (opening_at objects first_action first_entry)

-- the other fault is the same, at the same byte, or with the same reply
abbrev pub IsSameFault : LineFault → LineFault → Type 0
IsSameFault (fault.NoText at) other = other ≡ fault.NoText at
IsSameFault fault.NotAnOpening other = other ≡ fault.NotAnOpening
IsSameFault (fault.NoLine at) other = other ≡ fault.NoLine at
IsSameFault fault.NotNext other = other ≡ fault.NotNext
IsSameFault fault.NotSound other = other ≡ fault.NotSound
IsSameFault (fault.NotTheReply reply) other =
    (given : Reply) × (other ≡ fault.NotTheReply given) × (plain_reply given ≡ plain_reply reply)

-- A line has at most one fault after a journal that has a next number.
abbrev pub LinesHaveOneFault : Type 0
LinesHaveOneFault =
    (journal : JournalView) (line : List ℕ) (one other : LineFault) → next_entry journal < 2 ^ 64
    → IsLineFault one journal line → IsLineFault other journal line → IsSameFault one other

-- the text ends in a line feed
abbrev pub EndsInFeed : List ℕ → Type 0
EndsInFeed text = (lines : List ℕ) × (text ≡ lines ++ 10 ∷ [])

-- If the next line is at fault, no listing is longer than what was taken: no legal journal's
-- listing is what was taken and then a prefix of what is left that ends in a line feed.
abbrev pub NoLongerFrontIsAListing : Type 0
NoLongerFrontIsAListing =
    (taken : JournalView) (left : List ℕ) (fault : LineFault) → IsReadableJournal taken
    → IsFaulty taken left fault → (front rest : List ℕ) → left ≡ front ++ rest → EndsInFeed front
    → (other : JournalView) → IsListable other
    → journal_text other ≡ journal_text taken ++ front → ⊥

-- No line of a listing is at fault, wherever a piece of it ends: what was taken and what is left begin
-- no listing if the first line that is left is at fault.
abbrev pub ListingsHaveNoFault : Type 0
ListingsHaveNoFault =
    (taken : JournalView) (left : List ℕ) (fault : LineFault) → IsReadableJournal taken
    → IsFaulty taken left fault → (other : JournalView) (rest : List ℕ) → IsListable other
    → journal_text other ≡ journal_text taken ++ (left ++ rest) → ⊥

-- A listing is taken whole, and gives its journal: if what was taken and what is left is the
-- listing of a legal journal, nothing is left, and that journal was taken; unless there is no
-- memory.
abbrev pub ListingsAreTakenBack : Type 0
ListingsAreTakenBack =
    (taken : JournalView) (left : List ℕ) (end : TakenEnd) → IsReadableJournal taken
    → EndsTaking end taken left → end ≢ OutOfMemory → (other : JournalView) → IsListable other
    → journal_text other ≡ journal_text taken ++ left → (end ≡ Whole) × (taken ≡ other)

-- The guardian that is made of a listable journal has all of it: no object is dropped.
abbrev pub GuardiansAreWhole : Type 0
GuardiansAreWhole = (journal : JournalView) → IsListable journal → sound_front journal ≡ journal

-- A listing that a reader has is resumed whole, and the guardian has its journal: unless there is
-- no memory or a read fails.
abbrev pub ListingsAreResumed : Type 0
ListingsAreResumed =
    (has : Option (List ℕ)) (failed : Bool) (resumed : Resumed) (listed : JournalView)
    → IsListable listed → IsResumed (Some (journal_text listed)) has failed resumed
    → resumed.end ≢ read.OutOfMemory → resumed.end ≢ read.Read
    → (resumed.end ≡ read.Whole) × (resumed.guardian ≡ listed)

-- The longest listing is resumed: if a reader's text was read to a line at fault or to its end, no
-- listing with which the text begins is longer than the guardian's.
abbrev pub LongestListingIsResumed : Type 0
LongestListingIsResumed =
    (text : List ℕ) (has : Option (List ℕ)) (failed : Bool) (resumed : Resumed)
    → IsResumed (Some text) has failed resumed
    → resumed.end ≢ read.OutOfMemory → resumed.end ≢ read.Read
    → (other : JournalView) (rest : List ℕ) → IsListable other → text ≡ journal_text other ++ rest
    → length (journal_text other) ≤ length (journal_text resumed.guardian)
