-- In the midst of the loop the live siblings so far were ended.
use Rattle.argus_core.proofs.{SweepSiblings.IsSwung, Sweeps.steps_left}
use Rattle.argus_core.proofs.engine.discarding.discard_siblings.Given as goal

abbrev pub invariant-loop-child : goal.invariant-loop-child
invariant-loop-child l = IsSwung l.tree l.a.0 l.fn.under.0 l.fn.objects l.objects l.fn.holdings l.holdings
    l.others l.child

abbrev pub decreases-loop-child : goal.decreases-loop-child
decreases-loop-child l = steps_left l.child
