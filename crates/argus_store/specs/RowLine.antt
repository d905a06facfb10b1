-- Which row of a log has a line of its listing.
use Rattle.std.specs.Prelude.{◌≡◌, ℕ, ◌-◌, nat_le, if◌then◌else◌, List, [], ◌∷◌, map, Option, Some, None, Result}
use Rattle.std.specs.Prelude.{Ok, Err, ⊤}
use Rattle.sqlite.specs.{Order.{Row}, declared.types.Value.{Value}}
use Rattle.sqlite.specs.declared.types.Value.TheVariants.{Int, Text as Words}
use Rattle.argus_store.specs.{Journal.{Batch, Journal, OpeningLine}, Summing.entries_in}
use Rattle.argus_store.specs.declared.{row_line.RowLine.RowLine, faulty_row.Table.Table}
use Rattle.argus_store.specs.declared.faulty_row.Table.TheVariants.{Opening, Batch as OfBatch}

-- of a table's rows, the one that has this line, from 1 on, and which of its own lines it is; or which line behind all
abbrev pub among : Table → List OpeningLine → ℕ → Result RowLine ℕ
among table [] line = Err line
among table (l ∷ ls) line = if nat_le line (entries_in l.text)
    then Ok (record { table = table; row = l.number; line = line })
    else among table ls (line - entries_in l.text)

-- a batch, by its number and its lines
abbrev pub as_line : Batch → OpeningLine
as_line b = record { number = b.first; text = b.lines }

-- the place, if there is one
abbrev pub place : Result RowLine ℕ → Option RowLine
place (Ok it) = Some it
place (Err line) = None

-- the place; or else that in a batch
abbrev pub or_in_batch : List Batch → Result RowLine ℕ → Option RowLine
or_in_batch bs (Ok it) = Some it
or_in_batch bs (Err line) = place (among OfBatch (map as_line bs) line)

-- where a log has this line of its listing: in the opening, or else in a batch
abbrev pub place_in : Journal → ℕ → Option RowLine
place_in j line = or_in_batch j.batches (among Opening j.opening line)

-- the rows begin with these numbers and texts
abbrev pub HaveLines : List Row → List OpeningLine → Type 0
HaveLines [] [] = ⊤
HaveLines [] (l ∷ ls) = ⊥
HaveLines (row ∷ rows) [] = ⊥
HaveLines (row ∷ rows) (l ∷ ls) =
    ((more : List Value) × (row ≡ Int l.number ∷ (Words l.text ∷ more))) × HaveLines rows ls
