-- What a guardian is that was made from what a reader returned.
use Rattle.std.specs.Prelude.{Bool, List, Option, length, take, ℕ, ◌+◌, ◌-◌, ◌≡◌}
use Rattle.argus_journal.specs.JournalView.{JournalView}
use Rattle.argus_resume.specs.{JournalText.{IsReadableJournal, journal_text, no_journal}, SoundFront.sound_front}
use Rattle.argus_resume.specs.{Taking.TakesFrom, declared.resumed.Resumed.Resumed}
use Rattle.argus_resume.specs.declared.taken_from.TakenFrom.{TakenFrom}

-- how much was taken
abbrev pub taken_in : Resumed → TakenFrom
taken_in resumed = record { bytes = resumed.bytes; lines = resumed.lines; end = resumed.end }

-- The bytes that were taken are the listing of a journal, and the guardian has that journal: all of
-- it if it has an entry, and otherwise with as many objects as make a sound opening. The guardian's
-- listing is the first bytes of what was read: those that were taken, without the dropped ones.
pub record IsResumed (had has : Option (List ℕ)) (failed : Bool) (resumed : Resumed) : Type 0 where
  pub journal : JournalView
  pub readable : IsReadableJournal journal
  pub taken : TakesFrom no_journal journal had has failed (taken_in resumed)
  pub guardian : resumed.guardian ≡ sound_front journal
  pub front : journal_text resumed.guardian ≡ take (resumed.bytes - resumed.dropped) taken.read
  pub dropped : resumed.dropped + length (journal_text resumed.guardian)
      ≡ length (journal_text journal)
