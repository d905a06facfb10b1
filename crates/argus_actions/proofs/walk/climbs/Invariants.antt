-- Who is above the place of the climb is above the action, and no other is.
use Rattle.std.proofs.Common.{◌≡◌, ◌<◌, ◌≤◌, ◌+◌, length}
use Rattle.argus_actions.specs.{Rows.is_above, Nodes.rows_of}
use Rattle.argus_actions.proofs.walk.climbs.Given as goal

abbrev pub invariant-loop-at : goal.invariant-loop-at
invariant-loop-at l = record {
  held : l.first ≤ l.at;
  begun : l.at < l.first + length l.nodes;
  same : is_above l.first (rows_of l.nodes) l.x l.at ≡ is_above l.first (rows_of l.nodes) l.x l.y;
}

abbrev pub decreases-loop-at : goal.decreases-loop-at
decreases-loop-at l = l.at
