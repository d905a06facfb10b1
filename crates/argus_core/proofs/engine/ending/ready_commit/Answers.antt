-- The tree refuses a commit as the journal does, or there is room for what becomes of what the action holds.
use Rattle.std.proofs.Common.{sym, ◌∙◌}
use Rattle.argus_core.proofs.OfState.{commits, end_refused}
use Rattle.argus_core.proofs.engine.ending.ready_commit.Goals as goal

pub returns-in-Some-clause-ready : goal.returns-in-Some-clause-ready
returns-in-Some-clause-ready c =
    record {
      place = c.in_ok-reserve.ensures.ok;
      right = rw (c.reserve.ensures.entries, c.reserve.ensures.opening, c.refusal_of.ensures)
          (end_refused c.args.state.now (commits c.args.state.now c.requires c.args.a) c.in-Some.why
          (sym c.commit_refusal.ensures ∙ c.in-Some.is));
    }
