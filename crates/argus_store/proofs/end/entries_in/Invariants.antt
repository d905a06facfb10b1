use Rattle.std.proofs.Common.{◌≡◌, ◌≤◌, ◌+◌, fold, length}
use Rattle.argus_store.specs.Summing.{after_line_byte}
use Rattle.argus_store.proofs.end.entries_in.Given as goal

abbrev pub invariant-loop-bytes : goal.invariant-loop-bytes
invariant-loop-bytes l = (fold after_line_byte l.count l.bytes ≡ fold after_line_byte 1 l.fn.lines)
    × (l.count + length l.bytes ≤ 1 + length l.fn.lines)

abbrev pub decreases-loop-bytes : goal.decreases-loop-bytes
decreases-loop-bytes l = length l.bytes
