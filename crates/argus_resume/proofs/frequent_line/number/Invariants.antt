-- The digits passed so far are the number.
use Rattle.std.proofs.Common.{length, ◌++◌, ◌<◌, ◌≡◌}
use Rattle.std.specs.Fmt.{decimal}
use Rattle.argus_resume.proofs.frequent_line.number.Given as goal

abbrev pub invariant-loop-next : goal.invariant-loop-next
invariant-loop-next l = record { some : 0 < l.number; read : l.fn.text ≡ decimal l.number ++ l.rest }

abbrev pub decreases-loop-next : goal.decreases-loop-next
decreases-loop-next l = length l.rest
