-- How far a guardian has come that is being made from lines.
use Rattle.std.specs.Prelude.{List, Option, [], codes, false, if◌then◌else◌, length, map, true, ℕ, ◌+◌, ◌++◌, ◌<◌, ◌∷◌}
use Rattle.std.specs.Prelude.{◌≡◌, ◌≢◌}
use Rattle.argus_contents.specs.{Content.{PlainContent, plain_option}, Shape.PlainShape}
use Rattle.argus_entries.specs.Entry.{PlainEntry}
use Rattle.argus_journal.specs.{JournalView.{JournalView, next_entry}, Opening.{Opening, opening_at}}
use Rattle.argus_listings.specs.Listing.{each_from, folded_line, opened_line}
use Rattle.argus_resume.specs.{JournalText.{IsReadableJournal, IsReadableOpening}, Lines.{IsLineError, IsLineOf}}
use Rattle.argus_resume.specs.{Without.without_newest, declared.entry_lines.EntryLines.EntryLines}
use Rattle.argus_resume.specs.{declared.line_error.LineError.LineError, declared.stage.Stage.Stage}
use Rattle.argus_resume.specs.declared.opened_object.OpenedObject.{OpenedObject}
use Rattle.argus_resume.specs.declared.opening_lines.OpeningLines.{OpeningLines}
use Rattle.argus_resume.specs.declared.stage.Stage.TheVariants as stage

-- what an object says that was read
abbrev pub object_read : OpenedObject → PlainShape × Option PlainContent
object_read object = (object.shape, plain_option object.content)

-- what objects say that were read
abbrev pub objects_read : List OpenedObject → List (PlainShape × Option PlainContent)
objects_read objects = map object_read objects

-- the opening that was read
abbrev pub opening_read : OpeningLines → Opening
opening_read lines =
    opening_at (objects_read lines.objects.items) lines.first_action lines.first_entry

-- the lines of an opening
abbrev pub lines_of : Opening → List ℕ
lines_of s = folded_line s.first_entry s.first_action ++ each_from opened_line 0 s.objects

-- the journal with an opening only
abbrev pub opened_alone : Opening → JournalView
opened_alone s = record { opening = s; entries = [] }

-- a line of an opening, with its end, from what comes after its first word
abbrev pub opening_line : List ℕ → List ℕ
opening_line rest = codes "opening " ++ rest ++ 10 ∷ []

-- each object says how many bytes the lines have up to its own
abbrev pub AreEnds : ℕ → ℕ → List OpenedObject → Type 0
AreEnds before o [] = Unit {0}
AreEnds before o (object ∷ objects) =
    (object.end ≡ before + length (opened_line o (object_read object)))
    × AreEnds object.end (o + 1) objects

-- the opening is readable, and the bytes of its lines are counted
pub record IsCounted (lines : OpeningLines) : Type 0 where
  pub readable : IsReadableOpening (opening_read lines)
  pub head : lines.head ≡ length (folded_line lines.first_entry lines.first_action)
  pub ends : AreEnds lines.head 0 lines.objects.items

-- the journal that was taken, of a guardian that may be ahead of it
abbrev pub taken_by : EntryLines → JournalView
taken_by entries = if entries.is_ahead then without_newest entries.guardian else entries.guardian

-- a journal that isn't just an opening: with no line, or with an entry
abbrev pub HasEntries : JournalView → Type 0
HasEntries journal = 0 < journal.opening.first_entry → journal.entries ≢ []

-- the journal that was taken is readable, and isn't just an opening; a guardian that is ahead has
-- an entry
pub record AreEntries (entries : EntryLines) : Type 0 where
  pub readable : IsReadableJournal (taken_by entries)
  pub no_opening : HasEntries (taken_by entries)
  pub ahead : entries.is_ahead ≡ true → entries.guardian.entries ≢ []

-- the journal that was taken
abbrev pub journal_taken : Stage → JournalView
journal_taken (stage.Opening lines) = opened_alone (opening_read lines)
journal_taken (stage.Entries entries) = taken_by entries

-- what holds of a stage
abbrev pub StageInvariant : Stage → Type 0
StageInvariant (stage.Opening lines) = IsCounted lines
StageInvariant (stage.Entries entries) = AreEntries entries

-- no guardian is ahead of what was taken
abbrev pub IsLevel : Stage → Type 0
IsLevel (stage.Opening lines) = Unit {0}
IsLevel (stage.Entries entries) = entries.is_ahead ≡ false

-- an error says what is wrong with each line of the entry
abbrev pub SaysOf : LineError → JournalView → PlainEntry → Type 0
SaysOf e journal entry =
    (line : List ℕ) → IsLineOf (next_entry journal) entry line → IsLineError e journal line
