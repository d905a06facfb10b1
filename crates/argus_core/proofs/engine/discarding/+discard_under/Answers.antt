-- When no subaction is left, the action itself is ended, and so all that stand under it.
use Rattle.std.proofs.{Common.arith, lemmas.Grind.common_steps}
use Rattle.argus_core.proofs.Sweeps.{can_sweep_more, own_ended, walk_end, walk_fewer, walk_next, walk_start, walk_step}
use Rattle.argus_core.proofs.engine.discarding.+discard_under.Goals as goal

pub loop-sub-init : goal.loop-sub-init
loop-sub-init t c =
    walk_start c.args.tree.now c.requires.ready.linked c.args.a.0 c.args.objects.now c.args.holdings.now
    c.newest_sub-sub.result c.newest_sub-sub.ensures c.requires.ready.lawful

pub discard_under-requires : goal.discard_under-requires
discard_under-requires t c =
    let k = rw c.in-Some.is at c.loop-sub.invariant in
    let q = walk_next c.args.tree.now c.requires.ready.linked _ _ _ _ _ c.in-Some.below k in (
      omega (arith, q.0, q.1, c.decreases),
      (can_sweep_more k.ended c.requires.ready, (q.2, q.1)),
    )

pub loop-sub-smaller : goal.loop-sub-smaller
loop-sub-smaller t c =
    rw (c.older_sub-sub.ensures, c.in-Some.is)
    (walk_fewer c.args.tree.now c.requires.ready.linked _ _ _ _ _ c.in-Some.below (rw c.in-Some.is at c.loop-sub.invariant))

pub loop-sub-preserved : goal.loop-sub-preserved
loop-sub-preserved t c = grind (arith, common_steps, walk_step)

pub release_all-requires : goal.release_all-requires
release_all-requires t c =
    let left = can_sweep_more c.loop-sub.invariant.ended c.requires.ready in
    record { lawful = left.lawful; there = rw c.of.ensures.list (left.there c.args.a); once = c.of.ensures.once }

pub returns : goal.returns
returns t c =
    let tree = c.args.tree.now in
    let k = rw c.in_default.is at c.loop-sub.invariant in
    let left = can_sweep_more k.ended c.requires.ready in
    walk_end tree c.requires.ready.linked _ _ _ _ _ c.requires.begun c.requires.held _ _ k
    (own_ended tree c.args.a _ _ _ _ (rw c.of.ensures.list at c.release_all.ensures) c.clear.ensures
    left.lawful left.covered)
