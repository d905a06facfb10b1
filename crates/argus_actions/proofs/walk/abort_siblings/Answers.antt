-- When no sibling is left, all below a live one are Aborted.
use Rattle.std.proofs.{Common.{◌≡◌, ◌-◌, true, false, arith}, lemmas.Bool.Decides.nat_tests}
use Rattle.argus_actions.specs.{declared.status.Status.TheVariants.Aborted, Nodes.{rows_of, AreNodes}, Rows.mark}
use Rattle.argus_actions.{specs.Rows.{has_ancestor, is_live_sibling_of}, proofs.{Counted.count, NodesLemmas.some_node}}
use Rattle.argus_actions.proofs.Siblings.{left_aborted, is_swept, under_begun, sweep_start, sweep_begun, sweep_end}
use Rattle.argus_actions.proofs.Siblings.{sibling_seen, sweep_spared, sweep_aborted, sweep_step, sweep_smaller}
use Rattle.argus_actions.proofs.Siblings.{has_live, left_spared}
use Rattle.argus_actions.proofs.walk.abort_siblings.Goals as goal

pub overflow_sub-above : goal.overflow_sub-above
overflow_sub-above c = (under_begun _ _ _ _ c.requires.nodes c.requires.under).0

pub bounds-nodes-above : goal.bounds-nodes-above
bounds-nodes-above c = grind (arith, nat_tests, under_begun)

pub bounds-nodes-above-2 : goal.bounds-nodes-above-2
bounds-nodes-above-2 c = grind (arith, nat_tests, under_begun)

pub loop-others-init : goal.loop-others-init
loop-others-init c = grind (arith, nat_tests, under_begun, sweep_start)

pub overflow_sub-others : goal.overflow_sub-others
overflow_sub-others c = grind (arith, nat_tests, under_begun, has_live)

pub overflow_sub-at : goal.overflow_sub-at
overflow_sub-at c = (sweep_begun _ _ _ _ c.requires.nodes c.requires.under _ _ _ c.loop-others.invariant.swept
    c.loop-others-test.true).0

pub bounds-nodes-at : goal.bounds-nodes-at
bounds-nodes-at c =
    let begun = sweep_begun _ _ _ _ c.requires.nodes c.requires.under _ _ _ c.loop-others.invariant.swept
    c.loop-others-test.true in omega (arith, begun.0, begun.1, c.loop-others.invariant.long)

pub abort_under-requires-clause-held : goal.abort_under-requires-clause-held
abort_under-requires-clause-held c = (sweep_begun _ _ _ _ c.requires.nodes c.requires.under _ _ _
    c.loop-others.invariant.swept c.loop-others-test.true).0

pub abort_under-requires-clause-begun : goal.abort_under-requires-clause-begun
abort_under-requires-clause-begun c =
    let begun = sweep_begun _ _ _ _ c.requires.nodes c.requires.under _ _ _ c.loop-others.invariant.swept
    c.loop-others-test.true in omega (arith, begun.0, begun.1, c.loop-others.invariant.long)

pub bounds-nodes-at-in-loop-others : goal.bounds-nodes-at-in-loop-others
bounds-nodes-at-in-loop-others c =
    let begun = sweep_begun _ _ _ _ c.requires.nodes c.requires.under _ _ _ c.loop-others.invariant.swept
    c.loop-others-test.true in omega (arith, begun.0, begun.1, c.loop-others.invariant.long)

-- what the nodes are once this sibling is done with, and how many are left
done : (c : goal.Joined-child-a) → AreNodes c.args.first c.if-child-a.nodes
    × ((rows_of c.if-child-a.nodes ≡ mark c.args.first (has_ancestor
    (is_swept c.args.first (rows_of c.args.nodes.now) c.args.a c.loop-others.child) c.args.first
    (rows_of c.args.nodes.now)) Aborted (rows_of c.args.nodes.now))
    × (c.if-child-a.others
    ≡ count (is_live_sibling_of c.args.first (rows_of c.args.nodes.now) c.args.a) c.loop-others.child))
done c =
    let kept = c.requires.nodes in
    let swept = c.loop-others.invariant.swept in
    let some = c.loop-others-test.true in
    let begun = sweep_begun _ _ _ _ kept c.requires.under _ _ _ swept some in
    let seen = sibling_seen _ _ _ _ kept c.requires.under _ _ _ swept some (c.loop-others.child - c.args.first) in
    let aborted = sweep_aborted _ _ _ _ kept c.requires.under _ _ _ swept some in
    let left = left_aborted _ _ _ _ kept c.requires.under _ _ _ swept some in
    let spared = sweep_spared _ _ _ _ kept c.requires.under _ _ _ swept some in
    let still = left_spared _ _ _ _ kept c.requires.under _ _ _ swept some in
    grind (arith, nat_tests, begun, seen, some_node, aborted, left, spared, still)

pub loop-others-smaller : goal.loop-others-smaller
loop-others-smaller c =
    let begun = sweep_begun _ _ _ _ c.requires.nodes c.requires.under _ _ _ c.loop-others.invariant.swept
    c.loop-others-test.true in
    sweep_smaller _ _ _ _ c.requires.nodes c.requires.under _ _ _ c.loop-others.invariant.swept c.loop-others-test.true
    c.if-child-a.nodes (c.loop-others.child - c.args.first) (omega (arith, begun.0)) (done c).0
    (omega (arith, c.if-child-a.auto.nodes, c.loop-others.invariant.long)) (done c).1.0

pub loop-others-preserved : goal.loop-others-preserved
loop-others-preserved c = grind (arith, nat_tests, sweep_begun, done, sweep_step)

pub returns-clause-rows : goal.returns-clause-rows
returns-clause-rows c = sweep_end _ _ _ _ c.requires.nodes c.requires.under _ _ _ c.loop-others.invariant.swept
    (omega (arith, c.loop-others-test.false))
