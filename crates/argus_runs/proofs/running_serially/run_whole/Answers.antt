-- What a run has kept that came to a stop is what was written of it.
use Rattle.argus_runs.proofs.LastLine.{written_almost}
use Rattle.argus_streams.specs.FailStop.{inner_of}
use Rattle.argus_runs.proofs.running_serially.run_whole.Goals as goal

pub returns-in-Err-clause-cut : goal.returns-in-Err-clause-cut
returns-in-Err-clause-cut g c =
    let old = c.args.serial.now in let new = c.run_from_sources.new.caller in
    written_almost old.cut new.cut old.guardian new.guardian (g.W.Write.contents (inner_of old.writer))
    (g.W.Write.contents (inner_of new.writer)) c.requires.whole c.run_from_sources.ensures.kept

pub returns-then-serial-clause-cut : goal.returns-then-serial-clause-cut
returns-then-serial-clause-cut g c =
    let old = c.args.serial.now in let new = c.run_from_sources.new.caller in
    written_almost old.cut new.cut old.guardian new.guardian (g.W.Write.contents (inner_of old.writer))
    (g.W.Write.contents (inner_of new.writer)) c.requires.whole c.run_from_sources.ensures.kept
