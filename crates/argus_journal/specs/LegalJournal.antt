-- What contracts see of a `LegalJournal`: the same as of the journal that it holds.
use Rattle.std.specs.Prelude.{List, ℕ}
use Rattle.argus_entries.specs.Entry.{PlainEntry}
use Rattle.argus_journal.specs.{Journal.{entries_of, opening_of, room_of}, Opening.Opening}
use Rattle.argus_journal.specs.declared.legal_journal.LegalJournal.{LegalJournal}

-- where the journal begins
abbrev pub opening_in : LegalJournal → Opening
opening_in kept = opening_of kept.journal

-- the entries since then, the newest first
abbrev pub entries_in : LegalJournal → List PlainEntry
entries_in kept = entries_of kept.journal

-- room for how many more entries there is
abbrev pub room_in : LegalJournal → ℕ
room_in kept = room_of kept.journal
