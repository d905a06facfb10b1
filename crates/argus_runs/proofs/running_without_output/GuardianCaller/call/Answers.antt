-- A call that found no memory left the journal as it was: a beginning of what the call comes to. One that was
-- made added its entry.
use Rattle.argus_entries.specs.Call.{plain_call}
use Rattle.argus_runs.specs.Adding.{asked_grows, prefix_refl}
use Rattle.argus_runs.proofs.running_without_output.GuardianCaller.call.Goals as goal

pub returns-in-Ok-clause-kept : goal.returns-in-Ok-clause-kept
returns-in-Ok-clause-kept c = rw c.in-Ok.ensures.ok (asked_grows (plain_call c.args.call) c.args.self.now)

pub returns-in-Err-clause-kept : goal.returns-in-Err-clause-kept
returns-in-Err-clause-kept c = rw c.in-Err.ensures.err (prefix_refl c.args.self.now)

pub returns-in-Err-clause-early : goal.returns-in-Err-clause-early
returns-in-Err-clause-early c = λ _. rw c.in-Err.ensures.err (asked_grows (plain_call c.args.call) c.args.self.now)
