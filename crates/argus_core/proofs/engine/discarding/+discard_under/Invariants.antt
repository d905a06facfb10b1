-- In the midst of the walk the subactions so far were ended, with all that stand under them.
use Rattle.std.proofs.Common.{◌-◌}
use Rattle.argus_actions.specs.Tree.{next}
use Rattle.argus_core.proofs.Sweeps.{IsWalked, steps_left}
use Rattle.argus_core.proofs.engine.discarding.+discard_under.Given as goal

abbrev pub decreases-discard_under : goal.decreases-discard_under
decreases-discard_under l = next l.tree.now - l.a.0

abbrev pub invariant-loop-sub : goal.invariant-loop-sub
invariant-loop-sub l = IsWalked l.tree l.a.0 l.fn.objects l.objects l.fn.holdings l.holdings l.sub

abbrev pub decreases-loop-sub : goal.decreases-loop-sub
decreases-loop-sub l = steps_left l.sub
