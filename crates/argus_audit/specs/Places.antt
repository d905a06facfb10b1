-- The entries of a journal by their places: the first since the opening has place 0.
use Rattle.std.specs.Prelude.{List, reverse, take, ℕ}
use Rattle.argus_entries.specs.Entry.{PlainEntry}

-- this many of these entries from the first on, the newest first, as they are
abbrev pub first_entries : List PlainEntry → ℕ → List PlainEntry
first_entries j n = reverse (take n (reverse j))
