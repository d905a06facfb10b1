-- A commit that nothing refuses is answered `Done`.
use Rattle.std.proofs.Common.{subst}
use Rattle.argus_core.{specs.CommitStep.CanCommit, proofs.OfState.{commits, end_right}}
use Rattle.argus_core.proofs.engine.ending.make_commit.Goals.{in-Inherit, in-Settle}
use Rattle.argus_core.proofs.engine.ending.make_commit.Goals as goal

pub returns-clause-reply : goal.returns-clause-reply
returns-clause-reply c =
    let p = c.args.state.now in
    let commit = commits p c.requires.kept c.args.a in
    elim c.match-step.branch [
      | in-Inherit w ↦ end_right p commit (subst (CanCommit p c.args.a) w.in-Inherit.is c.requires.ready).free
      | in-Settle w ↦ end_right p commit (subst (CanCommit p c.args.a) w.in-Settle.is c.requires.ready).free
    ]
