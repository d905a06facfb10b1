-- The proof of the laws that stand on `a_fold_is_an_opening`.
use Rattle.std.proofs.{Common.arith, lemmas.Bool.Decides.nat_tests}
use Rattle.argus_journal.proofs.Folded.{fold_numbers, fold_sound}
use Rattle.argus_journal.proofs.folding.a_fold_is_an_opening.Goals as goal

pub returns : goal.returns
returns c = grind (arith, nat_tests, fold_sound, fold_numbers)
