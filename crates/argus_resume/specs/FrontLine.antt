-- A line at the front of a text, with its end.
use Rattle.std.specs.Prelude.{List, ℕ, ◌++◌, ◌≡◌}
use Rattle.argus_entries.specs.{Call.PlainCall, Entry.PlainEntry, EntrySpelling.entry_line, Reply.PlainReply}
use Rattle.argus_journal.specs.JournalView.{JournalView}
use Rattle.argus_reading.specs.Line.{IsReadable}
use Rattle.argus_resume.specs.{Taking.IsFaulty, declared.line_error.LineError.LineError}
use Rattle.argus_resume.specs.declared.taken_end.TakenEnd.{TakenEnd}
use Rattle.argus_resume.specs.declared.line_error.LineError.TheVariants as error
use Rattle.argus_resume.specs.declared.taken_end.TakenEnd.TheVariants as taken

-- the entry with this call and this reply
abbrev pub entry_with : PlainCall → PlainReply → PlainEntry
entry_with call reply = record { call = call; reply = reply }

-- the text is the line of this entry, which can be read and has this number, with its end, and then
-- rest
pub record HasFrontLine (number : ℕ) (entry : PlainEntry) (text rest : List ℕ) : Type 0 where
  pub readable : IsReadable entry
  pub is : text ≡ entry_line number entry ++ rest

-- what an error says of the first line of a text after the journal's listing; out of memory says
-- nothing
abbrev pub IsFrontError : LineError → JournalView → List ℕ → Type 0
IsFrontError (error.Fault fault) journal text = IsFaulty journal text fault
IsFrontError error.OutOfMemory journal text = Unit {0}

-- the end of a text whose first line wasn't taken for this error
abbrev pub end_of_error : LineError → TakenEnd
end_of_error (error.Fault fault) = taken.Fault fault
end_of_error error.OutOfMemory = taken.OutOfMemory
