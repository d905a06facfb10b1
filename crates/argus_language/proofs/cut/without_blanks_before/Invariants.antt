-- What was passed is blanks.
use Rattle.std.proofs.Common.{◌≡◌, length}
use Rattle.argus_language.specs.Lines.{behind_blanks}
use Rattle.argus_language.proofs.cut.without_blanks_before.Given as goal

abbrev pub invariant-loop-first : goal.invariant-loop-first
invariant-loop-first l = behind_blanks l.rest ≡ behind_blanks l.bytes

abbrev pub decreases-loop-first : goal.decreases-loop-first
decreases-loop-first l = length l.rest
