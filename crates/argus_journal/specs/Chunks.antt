-- What contracts see of `Chunks`: its entries, and room for how many more there is.
use Rattle.std.specs.{List.flat_map, Prelude.{List, vec_len, ℕ, ◌++◌, ◌-◌}, Vec.vec_capacity}
use Rattle.argus_entries.specs.declared.entry.Entry.{Entry}
use Rattle.argus_journal.specs.declared.chunks.Chunks.{Chunks}

-- the entries, the oldest first: those of each full chunk, and then those of the last one
abbrev pub chunked : Chunks → List Entry
chunked chunks = flat_map (λ chunk. chunk.items) chunks.full.items ++ chunks.last.items

-- room for how many more entries there is
abbrev pub chunk_room : Chunks → ℕ
chunk_room chunks = vec_capacity chunks.last - vec_len chunks.last
