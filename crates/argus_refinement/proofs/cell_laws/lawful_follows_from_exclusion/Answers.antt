-- The proof that lawful follows from exclusion.
use Rattle.std.proofs.{Common.arith, lemmas.Bool.Decides.nat_tests}
use Rattle.argus_journal.proofs.Legal.{lawful}
use Rattle.argus_refinement.proofs.CellOrder.{lawful_by_exclusion, rises}
use Rattle.argus_refinement.proofs.cell_laws.lawful_follows_from_exclusion.Goals as goal

pub returns : goal.returns
returns c = grind (arith, nat_tests, lawful_by_exclusion, lawful, rises)
