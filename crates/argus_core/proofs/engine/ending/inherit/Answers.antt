-- After a subaction's commit, by which its parent has what it held, the parts are what the longer journal says.
use Rattle.std.proofs.{Common.arith, lemmas.{Grind.common_steps, List.with_items_is}}
use Rattle.argus_core.proofs.{Ends.{kept_sub, parent_other}, FreeLocks.listed_held, OfState.{commits, end_right}}
use Rattle.argus_core.proofs.engine.ending.inherit.Goals as goal

pub inherit_list-requires-clause-there : goal.inherit_list-requires-clause-there
inherit_list-requires-clause-there c = rw (c.as_mut_slice.ensures.value) (c.requires.kept.state.there c.args.a)

pub inherit_list-requires-clause-listed : goal.inherit_list-requires-clause-listed
inherit_list-requires-clause-listed c =
    rw (c.as_mut_slice.ensures.value) (λ o low. listed_held c.args.state.now c.requires.kept c.args.parent o low)

pub inherit_list-requires-clause-other : goal.inherit_list-requires-clause-other
inherit_list-requires-clause-other c =
    let r = c.requires in
    parent_other _ _ _ _ _ r.kept c.args.a c.args.parent r.ready.free r.ready.parent

pub push-requires-clause-answered : goal.push-requires-clause-answered
push-requires-clause-answered c = grind (arith, common_steps, end_right, commits)

pub returns-clause-kept : goal.returns-clause-kept
returns-clause-kept c =
    let r = c.requires in
    rw (with_items_is c.args.state.now.objects c.inherit_list.new.objects (omega arith), c.push.ensures.entries)
    (rw (c.push.ensures.opening)
    (kept_sub _ _ _ _ _ _ _ _ c.args.a r.kept r.ready.free c.commit_ready.ensures c.args.parent r.ready.parent
    (rw (c.as_mut_slice.ensures.value) at c.inherit_list.ensures.objects) c.inherit_list.ensures.lists))
