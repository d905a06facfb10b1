use Rattle.std.proofs.Common.{◌≡◌, length, List}
use Rattle.argus_store.specs.{Journal.OpeningLine, RowLine.{HaveLines, among}}
use Rattle.argus_store.proofs.row_line.line_among.Given as goal

abbrev pub invariant-loop-rest : goal.invariant-loop-rest
invariant-loop-rest l = (ls : List OpeningLine) → HaveLines l.fn.rows ls
    → (left : List OpeningLine) × HaveLines l.rest left × (among l.fn.table left l.left ≡ among l.fn.table ls l.fn.line)

abbrev pub decreases-loop-rest : goal.decreases-loop-rest
decreases-loop-rest l = length l.rest
