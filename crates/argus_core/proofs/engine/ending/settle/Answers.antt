-- After a topaction's commit, whose versions are the bases, the parts are what the longer journal says.
use Rattle.std.proofs.{Common.arith, lemmas.{Grind.common_steps, List.with_items_is}}
use Rattle.argus_core.proofs.{Ends.kept_top, OfState.{commits, end_right}}
use Rattle.argus_core.proofs.engine.ending.settle.Goals as goal

pub push-requires-clause-answered : goal.push-requires-clause-answered
push-requires-clause-answered c = grind (arith, common_steps, end_right, commits)

pub returns-clause-kept : goal.returns-clause-kept
returns-clause-kept c =
    let r = c.requires in
    rw (with_items_is c.args.state.now.objects c.settle_all.new.objects (omega arith), c.push.ensures.entries)
    (rw (c.push.ensures.opening)
    (kept_top _ _ _ _ _ _ _ _ c.args.a r.kept r.ready.free c.commit_ready.ensures r.ready.top
    (rw (c.of.ensures.list, c.as_mut_slice.ensures.value) at c.settle_all.ensures) c.clear.ensures))
