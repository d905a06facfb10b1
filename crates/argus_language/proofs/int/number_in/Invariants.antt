-- What is left is written behind the number so far.
use Rattle.std.proofs.Common.{◌≡◌, drop}
use Rattle.argus_language.specs.Int.{digits_behind}
use Rattle.argus_language.proofs.int.number_in.Given as goal

abbrev pub invariant-loop-digit : goal.invariant-loop-digit
invariant-loop-digit l = digits_behind 0 l.digits ≡ digits_behind l.number (drop l.digit-index l.digits)
