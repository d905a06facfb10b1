-- The number of the next entry fits 64 bits.
use Rattle.std.proofs.{Common.arith, lemmas.Bool.Decides.nat_tests}
use Rattle.argus_journal.proofs.journal.Journal.len.Goals as goal

pub overflow_add-result : goal.overflow_add-result
overflow_add-result c = grind (arith, nat_tests)
