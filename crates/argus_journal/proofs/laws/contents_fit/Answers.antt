-- The proof of the laws that stand on `contents_fit`.
use Rattle.std.proofs.{Common.arith, lemmas.Bool.Decides.nat_tests}
use Rattle.argus_journal.proofs.Contents.{content_fits}
use Rattle.argus_journal.proofs.laws.contents_fit.Goals as goal

pub returns : goal.returns
returns c = grind (arith, nat_tests, content_fits)
