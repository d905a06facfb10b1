-- A call that was made has its line written, whole or cut; one that wasn't made left the journal as it was.
use Rattle.argus_entries.specs.Call.{plain_call}
use Rattle.argus_runs.specs.Adding.{asked_grows}
use Rattle.argus_runs.proofs.LastLine.{lacking_one, written_one}
use Rattle.argus_streams.specs.FailStop.{inner_of}
use Rattle.argus_runs.proofs.writing_guardian.WritingGuardianCaller.call.Goals as goal

pub returns-then-self-clause-early : goal.returns-then-self-clause-early
returns-then-self-clause-early g c = λ _. asked_grows (plain_call c.args.call) c.args.self.now.guardian

pub returns-in-Err-clause-early : goal.returns-in-Err-clause-early
returns-in-Err-clause-early g c =
    λ _. rw c.in-Err.ensures.err (asked_grows (plain_call c.args.call) c.args.self.now.guardian)

pub returns-in-Ok-write_line-clause-kept : goal.returns-in-Ok-write_line-clause-kept
returns-in-Ok-write_line-clause-kept g c =
    rw c.if-self.false (written_one c.args.self.now.guardian c.call.new.self (plain_call c.args.call)
    c.next_entry-at.result
    (g.W.Write.contents (inner_of c.args.self.now.writer)) (g.W.Write.contents (inner_of c.write_line.new.writer))
    c.in-Ok.ensures.ok c.next_entry-at.ensures c.in-Ok-write_line.ensures.ok)

pub returns-in-Err-write_line-clause-kept : goal.returns-in-Err-write_line-clause-kept
returns-in-Err-write_line-clause-kept g c =
    let cut = c.in-Err-write_line.ensures.cut in
    rw c.if-self.false (lacking_one c.args.self.now.guardian c.call.new.self (plain_call c.args.call)
    c.next_entry-at.result cut.0
    (g.W.Write.contents (inner_of c.args.self.now.writer)) (g.W.Write.contents (inner_of c.write_line.new.writer))
    c.in-Ok.ensures.ok c.next_entry-at.ensures cut.1)
