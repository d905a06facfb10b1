-- The laws of runs.
use Rattle.std.specs.Prelude.{List, ◌≡◌}
use Rattle.argus_language.specs.Script.{PlainScript}
use Rattle.argus_entries.specs.Entry.{PlainEntry}
use Rattle.argus_journal.specs.JournalView.{JournalView}
use Rattle.argus_runs.specs.{Played.{IsPlay, Tells}, RunPrefix.extended}

-- each script comes to an end after each journal
abbrev pub RunsEnd : Type 0
RunsEnd = (old : JournalView) (script : PlainScript) → (new : JournalView) × IsPlay old script new

-- the entries that a run adds to a journal are that run's
abbrev pub PlaysTell : Type 0
PlaysTell = (old : JournalView) (script : PlainScript) (new : JournalView) → IsPlay old script new
    → (made : List PlainEntry) × (new ≡ extended old made) × Tells script made
