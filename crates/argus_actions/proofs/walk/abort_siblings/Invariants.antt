-- In the midst of the walk the live siblings so far are Aborted, with all below them.
use Rattle.std.proofs.Common.{◌≡◌, length}
use Rattle.argus_actions.{specs.Nodes.AreNodes, proofs.{Walks.steps_left, Siblings.IsSwept}}
use Rattle.argus_actions.proofs.walk.abort_siblings.Given as goal

abbrev pub invariant-loop-others : goal.invariant-loop-others
invariant-loop-others l = record {
  nodes : AreNodes l.first l.nodes;
  long : length l.nodes ≡ length l.fn.nodes;
  swept : IsSwept l.first l.fn.nodes l.nodes l.a l.under l.child l.others;
}

abbrev pub decreases-loop-others : goal.decreases-loop-others
decreases-loop-others l = steps_left l.child
