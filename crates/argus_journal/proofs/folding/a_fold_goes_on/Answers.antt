-- The proof of the laws that stand on `a_fold_goes_on`.
use Rattle.std.proofs.{Common.arith, lemmas.Bool.Decides.nat_tests}
use Rattle.argus_journal.proofs.Folded.{entry_stays, fold_content, next_stays, shapes-with_contents}
use Rattle.argus_journal.proofs.folding.a_fold_goes_on.Goals as goal

pub returns : goal.returns
returns c = grind (arith, nat_tests, shapes-with_contents, fold_content, next_stays, entry_stays)
