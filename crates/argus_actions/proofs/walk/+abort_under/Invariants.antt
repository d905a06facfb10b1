-- In the midst of an abort the subactions so far are Aborted.
use Rattle.std.proofs.Common.{◌≡◌, ◌+◌, ◌-◌, length}
use Rattle.argus_actions.{specs.Nodes.AreNodes, proofs.{Walks.steps_left, Walked.IsWalked}}
use Rattle.argus_actions.proofs.walk.+abort_under.Given as goal

abbrev pub decreases-abort_under : goal.decreases-abort_under
decreases-abort_under l = l.first + length l.nodes.now - l.a

abbrev pub invariant-loop-sub : goal.invariant-loop-sub
invariant-loop-sub l = record {
  nodes : AreNodes l.first l.nodes;
  long : length l.nodes ≡ length l.fn.nodes;
  walked : IsWalked l.first l.fn.nodes l.nodes l.a l.sub;
}

abbrev pub decreases-loop-sub : goal.decreases-loop-sub
decreases-loop-sub l = steps_left l.sub
