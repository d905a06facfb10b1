-- A journal without its newest entry.
use Rattle.std.specs.Prelude.{drop}
use Rattle.argus_journal.specs.JournalView.{JournalView}

-- the journal without its newest entry
abbrev pub without_newest : JournalView → JournalView
without_newest journal = record { opening = journal.opening; entries = drop 1 journal.entries }
