-- When no subaction is left, all below the action are Aborted.
use Rattle.std.proofs.{Common.{◌<◌, ◌-◌, ◌+◌, length, arith}, lemmas.Bool.Decides.nat_tests}
use Rattle.argus_actions.proofs.Walked.{walk_start, walk_begun, walk_step, walk_smaller, walk_end}
use Rattle.argus_actions.proofs.walk.+abort_under.Goals as goal

pub loop-sub-init : goal.loop-sub-init
loop-sub-init t c = grind (arith, nat_tests, walk_start)

pub abort_under-requires : goal.abort_under-requires
abort_under-requires t c =
    let next = walk_begun _ _ _ c.requires.nodes _ _ c.loop-sub.invariant.walked c.loop-sub-test.true in
    let less : c.args.first + length c.loop-sub.nodes - c.loop-sub.sub < t =
    omega (arith, next.0, next.1, c.loop-sub.invariant.long, c.decreases) in
    (less, (c.loop-sub.invariant.nodes, (next.2, omega (arith, next.0, c.loop-sub.invariant.long))))

pub bounds-nodes-sub : goal.bounds-nodes-sub
bounds-nodes-sub t c =
    let next = walk_begun _ _ _ c.requires.nodes _ _ c.loop-sub.invariant.walked c.loop-sub-test.true in
    omega (arith, next.0, next.2, c.loop-sub.invariant.long)

pub loop-sub-smaller : goal.loop-sub-smaller
loop-sub-smaller t c =
    let next = walk_begun _ _ _ c.requires.nodes _ _ c.loop-sub.invariant.walked c.loop-sub-test.true in
    walk_smaller _ _ _ c.requires.nodes _ _ c.loop-sub.invariant.walked c.abort_under.new.nodes
    (c.loop-sub.sub - c.args.first) (omega (arith, next.2)) c.loop-sub-test.true c.abort_under.ensures.nodes
    (omega arith) c.abort_under.ensures.rows

pub loop-sub-preserved : goal.loop-sub-preserved
loop-sub-preserved t c = grind (arith, nat_tests, walk_begun, walk_step)

pub returns-clause-rows : goal.returns-clause-rows
returns-clause-rows t c = walk_end _ _ _ c.requires.nodes _ _ c.loop-sub.invariant.walked c.loop-sub-test.false

pub overflow_sub-sub-in-loop-sub : goal.overflow_sub-sub-in-loop-sub
overflow_sub-sub-in-loop-sub t c = (walk_begun c.args.first c.args.nodes.now c.args.a c.requires.nodes c.loop-sub.nodes
    c.loop-sub.sub c.loop-sub.invariant.walked c.loop-sub-test.true).2
