-- The lines of entries, and what a run writes.
use Rattle.std.specs.Prelude.{Bool, List, None, Option, Some, false, length, take, true, ℕ, ◌+◌, ◌≡◌, [], ◌++◌, ◌∷◌}
use Rattle.std.specs.{Prelude.{◌⊎◌}, Io.KnownBytes.Appends}
use Rattle.argus_entries.specs.{Entry.PlainEntry, EntrySpelling.entry_line}
use Rattle.argus_journal.specs.{JournalView.{JournalView, next_entry}, Journal.entry_at}
use Rattle.argus_runs.specs.RunPrefix.{extended}

-- the lines of entries from this number on
abbrev pub lines : ℕ → List PlainEntry → List ℕ
lines at [] = []
lines at (e ∷ es) = entry_line at e ++ lines (at + 1) es

-- the line of an entry, if there is one
abbrev pub line_if : ℕ → Option PlainEntry → List ℕ
line_if at None = []
line_if at (Some e) = entry_line at e

-- the line of the entry with this number in the journal
abbrev pub line_at : JournalView → ℕ → List ℕ
line_at j at = line_if at (entry_at j.opening j.entries at)

-- from the first journal to the second some entries were added, and from the first text to the
-- second their lines
abbrev pub Written : JournalView → Option (List ℕ) → JournalView → Option (List ℕ) → Type 0
Written old text new text' = (made : List PlainEntry) × (new ≡ extended old made)
    × Appends text text' (lines (next_entry old) made)

-- the same, except that the last line is cut short or missing
abbrev pub Lacking : JournalView → Option (List ℕ) → JournalView → Option (List ℕ) → Type 0
Lacking old text new text' = (made : List PlainEntry) × (last : PlainEntry) × (n : ℕ)
    × (new ≡ extended old (made ++ last ∷ [])) × Appends text text' (lines (next_entry old) made
    ++ take n (entry_line (next_entry old + length made) last))

-- What a run keeps, as its own code sees it. The flags say whether a line could not be written whole:
-- after that nothing more is called or written.
abbrev pub KeepsText : Bool → JournalView → Option (List ℕ) → Bool → JournalView → Option (List ℕ)
    → Type 0
KeepsText false old text false new text' = Written old text new text'
KeepsText false old text true new text' = Lacking old text new text'
KeepsText true old text cut new text' = (cut ≡ true) × (new ≡ old) × (text' ≡ text)

-- what was written of a run that came to a stop: the lines of the entries made, either all of them
-- or all but the last one, which is cut short or missing
abbrev pub WrittenAlmost : JournalView → Option (List ℕ) → JournalView → Option (List ℕ) → Type 0
WrittenAlmost old text new text' = Written old text new text' ⊎ Lacking old text new text'
