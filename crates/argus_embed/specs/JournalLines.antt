-- Whole lines of the journal, as many as fit into a room.
use Rattle.std.specs.{List.{flat_map, range_with_len}, Option.option_map}
use Rattle.std.specs.Prelude.{List, drop, if◌then◌else◌, length, string_bytes, ℕ, ◌+◌, ◌++◌, ◌<◌, ◌==◌, ◌≡◌, ◌≤◌, ◌⊎◌}
use Rattle.argus_journal.specs.{EntrySpelling.entry_spelling, Folding.next_entry_number, Journal.entry_at}
use Rattle.argus_journal.specs.JournalView.{JournalView}
use Rattle.argus_embed.specs.{Embedded.text_line, declared.lines.Lines.Lines, declared.lines_writing.Fitting.Fitting}

-- the number that the journal's next entry gets
abbrev pub next_of : JournalView → ℕ
next_of journal = next_entry_number journal.opening journal.entries

-- the line of the entry with this number, with its line feed; nothing if the journal doesn't have
-- it
abbrev pub line_at : JournalView → ℕ → List ℕ
line_at journal at =
    text_line (option_map (entry_spelling at) (entry_at journal.opening journal.entries at))

-- the lines of this many entries from this number on
abbrev pub lines_from : JournalView → ℕ → ℕ → List ℕ
lines_from journal from count = flat_map (line_at journal) (range_with_len from count)

-- the number is below that of the first entry since the opening, or above that of the next one
abbrev pub HasNoPlace : JournalView → ℕ → Type 0
HasNoPlace journal from = (from < journal.opening.first_entry) ⊎ (next_of journal < from)

-- the bytes of the lines that a room has taken; if it has taken none, those of the first line
abbrev pub lines_size : JournalView → ℕ → ℕ → ℕ
lines_size journal from count =
    if count == 0 then length (line_at journal from) else length (lines_from journal from count)

-- this many whole lines are at the front of the room, whose rest is as it was, and with the next one, if
-- there is one, they would be longer than it
pub record AreLines (journal : JournalView) (from : ℕ) (old new : List ℕ) (lines : Lines)
    : Type 0 where
  -- there are this many entries
  pub there : from + lines.count ≤ next_of journal
  pub fit : length (lines_from journal from lines.count) ≤ length old
  -- if there are none, the room is unchanged
  pub put : new ≡ lines_from journal from lines.count
      ++ drop (length (lines_from journal from lines.count)) old
  -- one more, if there is one, doesn't fit
  pub most : from + lines.count < next_of journal
      → length old < length (lines_from journal from (lines.count + 1))
  pub size : lines.size ≡ lines_size journal from lines.count

-- this many lines fit: all up to the next entry; or all but the last of those that were made
abbrev pub IsFitting : JournalView → ℕ → ℕ → ℕ → Fitting → Type 0
IsFitting journal from next most f =
    (f.size ≡ length (lines_from journal from f.count)) × (f.size ≤ most)
    × (((from + f.count ≡ next) × (string_bytes f.text ≡ lines_from journal from f.count))
    ⊎ ((from + f.count < next) × (string_bytes f.text ≡ lines_from journal from (f.count + 1))
    × (most < length (string_bytes f.text))))
