-- A change that found no memory left the journal as it was: a beginning of what it comes to. One that was made added
-- its entry.
use Rattle.argus_contents.specs.Change.{plain_change}
use Rattle.argus_entries.specs.Call.{alter}
use Rattle.argus_runs.specs.Adding.{asked_grows, prefix_refl}
use Rattle.argus_runs.proofs.running_without_output.GuardianCaller.alter.Goals as goal

pub returns-in-Ok-clause-kept : goal.returns-in-Ok-clause-kept
returns-in-Ok-clause-kept c = rw c.in-Ok.ensures.ok
    (asked_grows (alter c.args.action.0 c.args.object.0 (plain_change c.args.change)) c.args.self.now)

pub returns-in-Err-clause-kept : goal.returns-in-Err-clause-kept
returns-in-Err-clause-kept c = rw c.in-Err.ensures.err (prefix_refl c.args.self.now)

pub returns-in-Err-clause-early : goal.returns-in-Err-clause-early
returns-in-Err-clause-early c = λ _ _. rw c.in-Err.ensures.err
    (asked_grows (alter c.args.action.0 c.args.object.0 (plain_change c.args.change)) c.args.self.now)
