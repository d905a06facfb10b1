-- What is replayed without a reader is what is there for good.
use Rattle.std.proofs.{Common.arith, lemmas.Bool.Decides.nat_tests}
use Rattle.argus_journal.proofs.Replay.{replayed_base}
use Rattle.argus_audit.proofs.audit.Audit.base.Goals as goal

pub returns : goal.returns
returns c = grind (arith, nat_tests, replayed_base)
