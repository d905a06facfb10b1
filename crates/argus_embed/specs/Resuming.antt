-- How a guardian is made again from the lines of a journal.
use Rattle.std.specs.Prelude.{List, None, Some, [], drop, length, take, ℕ, ◌+◌, ◌++◌, ◌-◌, ◌≡◌, ◌≤◌}
use Rattle.argus_journal.specs.{EntrySpelling.reply_spelling, JournalView.next_entry, Reply.plain_reply}
use Rattle.argus_journal.specs.entries_declared.reply.Reply.{Reply}
use Rattle.argus_guardian.specs.{JournalText.{IsReadableJournal, journal_text, no_journal}, SoundFront.sound_front}
use Rattle.argus_guardian.specs.{Taking.{IsFaulty, IsTorn, line_count}, resume_declared.taken_end.TakenEnd.TakenEnd}
use Rattle.argus_guardian.specs.resume_declared.line_fault.LineFault.TheVariants as fault
use Rattle.argus_guardian.specs.resume_declared.taken_end.TakenEnd.TheVariants as taken
use Rattle.argus_embed.specs.{Embedded.EmbeddedState, declared.text_end.TextEnd.TextEnd}
use Rattle.argus_embed.specs.declared.text_taken.TextTaken.{TextTaken}
use Rattle.argus_embed.specs.declared.text_end.TextEnd.TheVariants as text_end

-- the next line isn't that of the next entry, which has this number
pub record IsNotNext (state : EmbeddedState) (left : List ℕ) (wanted : ℕ) : Type 0 where
  pub faulty : IsFaulty state.taken left fault.NotNext
  pub next : wanted ≡ next_entry state.taken

-- another reply to the call of the next line follows from the journal; its text is kept, as its
-- line has it
pub record IsNotTheReply (state : EmbeddedState) (left : List ℕ) : Type 0 where
  pub reply : Reply
  pub faulty : IsFaulty state.taken left (fault.NotTheReply reply)
  pub kept : state.text ≡ Some (reply_spelling (plain_reply reply))

-- what an end says of the bytes that are left after the lines that were taken, and of the text that is kept; out of
-- memory says nothing of the bytes
abbrev pub IsEndOf : TextEnd → EmbeddedState → EmbeddedState → List ℕ → Type 0
IsEndOf text_end.Whole old new left = (left ≡ []) × (new.text ≡ old.text)
IsEndOf text_end.Torn old new left = IsTorn left × (new.text ≡ old.text)
IsEndOf text_end.OutOfMemory old new left = new.text ≡ old.text
IsEndOf (text_end.NoText at) old new left =
    IsFaulty new.taken left (fault.NoText at) × (new.text ≡ old.text)
IsEndOf text_end.NotAnOpening old new left =
    IsFaulty new.taken left fault.NotAnOpening × (new.text ≡ old.text)
IsEndOf (text_end.NoLine at) old new left =
    IsFaulty new.taken left (fault.NoLine at) × (new.text ≡ old.text)
IsEndOf (text_end.NotNext wanted) old new left = IsNotNext new left wanted × (new.text ≡ old.text)
IsEndOf text_end.NotSound old new left =
    IsFaulty new.taken left fault.NotSound × (new.text ≡ old.text)
IsEndOf text_end.NotTheReply old new left = IsNotTheReply new left

-- the listing of what was taken became longer by the first bytes of the text
pub record IsTextTaken (old new : EmbeddedState) (text : List ℕ) (taken : TextTaken) : Type 0 where
  pub within : taken.bytes ≤ length text
  pub longer : journal_text new.taken ≡ journal_text old.taken ++ take taken.bytes text
  pub lines : taken.lines ≡ line_count (take taken.bytes text)
  pub end : IsEndOf taken.end old new (drop taken.bytes text)
  -- what was taken is a journal that lines can spell
  pub readable : IsReadableJournal new.taken
  -- the guardian that is held is unchanged
  pub held : new.journal ≡ old.journal

-- the guardian of what was taken; no text is kept, and no line taken
abbrev pub after_resumption : EmbeddedState → EmbeddedState
after_resumption state =
    record { journal = sound_front state.taken; text = None; taken = no_journal }

-- the listing of the guardian is what was taken, except for this many bytes at its end
pub record IsDropped (dropped : ℕ) (old new : EmbeddedState) : Type 0 where
  pub front : journal_text new.journal
      ≡ take (length (journal_text old.taken) - dropped) (journal_text old.taken)
  pub count : dropped + length (journal_text new.journal) ≡ length (journal_text old.taken)

-- the end as the host gets it, and the text that is kept of it
abbrev pub EndsText : TakenEnd → EmbeddedState → EmbeddedState → TextEnd → Type 0
EndsText taken.Whole old new end = (end ≡ text_end.Whole) × (new ≡ old)
EndsText taken.Torn old new end = (end ≡ text_end.Torn) × (new ≡ old)
EndsText taken.OutOfMemory old new end = (end ≡ text_end.OutOfMemory) × (new ≡ old)
EndsText (taken.Fault (fault.NoText at)) old new end = (end ≡ text_end.NoText at) × (new ≡ old)
EndsText (taken.Fault fault.NotAnOpening) old new end = (end ≡ text_end.NotAnOpening) × (new ≡ old)
EndsText (taken.Fault (fault.NoLine at)) old new end = (end ≡ text_end.NoLine at) × (new ≡ old)
EndsText (taken.Fault fault.NotNext) old new end =
    (end ≡ text_end.NotNext (next_entry old.taken)) × (new ≡ old)
EndsText (taken.Fault fault.NotSound) old new end = (end ≡ text_end.NotSound) × (new ≡ old)
EndsText (taken.Fault (fault.NotTheReply reply)) old new end =
    (end ≡ text_end.NotTheReply)
    × (new ≡ record old { text = Some (reply_spelling (plain_reply reply)) })
