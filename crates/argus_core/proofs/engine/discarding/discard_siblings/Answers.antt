-- When no sibling is left, all that stand under a live one were ended.
use Rattle.std.proofs.{Common.{arith, ◌∙◌}, lemmas.Grind.common_steps}
use Rattle.argus_core.proofs.{Sweeps.can_sweep_more, SweepSiblings.{first_left, sibling_here}}
use Rattle.argus_core.proofs.SweepSiblings.{swing_done, swing_end, swing_fewer, swing_next, swing_pass, swing_start}
use Rattle.argus_core.proofs.SweepSiblings.{swing_step}
use Rattle.argus_core.proofs.engine.discarding.discard_siblings.Goals as goal

pub loop-child-init : goal.loop-child-init
loop-child-init c = grind (arith, common_steps, swing_start, first_left)

pub discard_under-requires-clause-held : goal.discard_under-requires-clause-held
discard_under-requires-clause-held c =
    (swing_next c.args.tree.now c.args.a.0 c.args.under.0 c.requires.under _ _ _ _ _ c.in-Some.sibling
    (rw c.in-Some.is at c.loop-child.invariant)).1

pub discard_under-requires-clause-begun : goal.discard_under-requires-clause-begun
discard_under-requires-clause-begun c =
    (swing_next c.args.tree.now c.args.a.0 c.args.under.0 c.requires.under _ _ _ _ _ c.in-Some.sibling
    (rw c.in-Some.is at c.loop-child.invariant)).0

pub discard_under-requires-clause-ready : goal.discard_under-requires-clause-ready
discard_under-requires-clause-ready c = can_sweep_more c.loop-child.invariant.ended c.requires.ready

pub loop-child-smaller : goal.loop-child-smaller
loop-child-smaller c =
    rw (c.older_sibling-child.ensures, c.in-Some.is)
    (swing_fewer c.args.tree.now c.args.a.0 c.args.under.0 c.requires.under _ _ _ _ _ c.in-Some.sibling
    (rw c.in-Some.is at c.loop-child.invariant))

pub loop-child-preserved : goal.loop-child-preserved
loop-child-preserved c = grind (arith, common_steps, sibling_here, swing_step, swing_pass)

pub returns : goal.returns
returns c =
    swing_end c.args.tree.now c.args.a.0 c.args.under.0 c.requires.under _ _ _ _ _
    (rw c.in_default.is at c.loop-child.invariant)

pub returns-then-others-eq0 : goal.returns-then-others-eq0
returns-then-others-eq0 c =
    swing_done c.args.tree.now c.args.a.0 c.args.under.0 c.requires.under _ _ _ _ _ _ c.if-others-eq0.true
    c.loop-child.invariant

pub overflow_sub-others : goal.overflow_sub-others
overflow_sub-others c =
    omega (
      arith,
      c.live_children-others.ensures.value
          ∙ first_left c.args.tree.now c.args.a.0 c.args.under.0 c.requires.under c.requires.live,
    )
