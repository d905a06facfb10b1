use Rattle.std.proofs.Common.{◌≡◌, ◌+◌, length, List, map}
use Rattle.argus_store.specs.Journal.{OpeningLine, shown_line}
use Rattle.argus_store.proofs.Chains.{LinesLeft}
use Rattle.argus_store.proofs.listing.push_lines.Given as goal

abbrev pub invariant-loop-row : goal.invariant-loop-row
invariant-loop-row l = (l.number + length l.rest ≡ length l.fn.rows)
    × ((ls : List OpeningLine) → l.fn.rows ≡ map shown_line ls → LinesLeft ls l.fn.text.items l.number l.rest
    l.text.items)

abbrev pub decreases-loop-row : goal.decreases-loop-row
decreases-loop-row l = length l.rest
