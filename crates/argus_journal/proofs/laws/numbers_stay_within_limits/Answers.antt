-- The proof of the laws that stand on `numbers_stay_within_limits`.
use Rattle.std.proofs.{Common.arith, lemmas.Bool.Decides.nat_tests}
use Rattle.argus_journal.proofs.Within.{actions_within, objects_within}
use Rattle.argus_journal.proofs.laws.numbers_stay_within_limits.Goals as goal

pub returns : goal.returns
returns c = grind (arith, nat_tests, objects_within, actions_within)
