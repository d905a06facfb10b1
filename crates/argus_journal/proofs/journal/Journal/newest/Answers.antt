-- The newest of some entries is the last of those in the chunks.
use Rattle.std.proofs.{Common.arith, lemmas.Bool.Decides.nat_tests}
use Rattle.argus_journal.proofs.Newest.{is_there, newest_taken}
use Rattle.argus_journal.proofs.journal.Journal.newest.Goals as goal

pub returns : goal.returns
returns c = grind (arith, nat_tests, newest_taken, is_there)
