-- The proof of the laws that stand on `effects_go_on`.
use Rattle.std.proofs.{Common.arith, lemmas.Bool.Decides.nat_tests}
use Rattle.argus_journal.proofs.Folded.{base_after, effects_after}
use Rattle.argus_journal.proofs.folding.effects_go_on.Goals as goal

pub returns : goal.returns
returns c = grind (arith, nat_tests, effects_after, base_after)
