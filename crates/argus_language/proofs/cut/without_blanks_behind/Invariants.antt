-- What was cut off is blanks.
use Rattle.std.proofs.Common.{◌≡◌, length}
use Rattle.argus_language.specs.Lines.{before_blanks}
use Rattle.argus_language.proofs.cut.without_blanks_behind.Given as goal

abbrev pub invariant-loop-last : goal.invariant-loop-last
invariant-loop-last l = before_blanks l.rest ≡ before_blanks l.bytes

abbrev pub decreases-loop-last : goal.decreases-loop-last
decreases-loop-last l = length l.rest
