-- What is replayed for an action is what it sees.
use Rattle.std.proofs.{Common.arith, lemmas.Bool.Decides.nat_tests}
use Rattle.argus_journal.proofs.Replay.{replayed_seen}
use Rattle.argus_audit.proofs.audit.Audit.seen.Goals as goal

pub returns : goal.returns
returns c = grind (arith, nat_tests, replayed_seen)
