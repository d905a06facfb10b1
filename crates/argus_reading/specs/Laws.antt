-- The laws of lines that are read back, and of texts that aren't lines.
use Rattle.std.specs.Prelude.{List, ◌≡◌, ◌≢◌, ℕ, ◌<◌, ◌^◌}
use Rattle.argus_entries.specs.{Entry.PlainEntry, EntrySpelling.entry_spelling}
use Rattle.argus_reading.specs.{Line.{IsReadable, Tells}, declared.read_entry_error.ReadEntryError.ReadEntryError}
use Rattle.argus_reading.specs.declared.read_entry_error.ReadEntryError.TheVariants.{OutOfMemory}

-- for the line of a readable entry the only error is out of memory, and the line is that of no
-- other number and entry
abbrev pub EntriesAreReadBack : Type 0
EntriesAreReadBack = (n : ℕ) (e : PlainEntry) → n < 2 ^ 64 → IsReadable e
    → ((error : ReadEntryError) → Tells error (entry_spelling n e) → error ≡ OutOfMemory)
    × ((m : ℕ) (d : PlainEntry) → m < 2 ^ 64 → IsReadable d
    → entry_spelling n e ≡ entry_spelling m d → (m ≡ n) × (d ≡ e))

-- a text has one error at most, and out of memory
abbrev pub TextsHaveOneError : Type 0
TextsHaveOneError = (text : List ℕ) (one other : ReadEntryError) → Tells one text → Tells other text
    → one ≢ OutOfMemory → other ≢ OutOfMemory → one ≡ other
