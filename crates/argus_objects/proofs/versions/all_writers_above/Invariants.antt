-- What is left of the holders decides, asked of the last one that was found above.
use Rattle.std.proofs.Common.{◌≡◌, ◌≤◌, length, take}
use Rattle.argus_objects.specs.{Object.{holders, versions_newest_first, writers}, Rules.all_above}
use Rattle.argus_objects.proofs.versions.all_writers_above.Given as goal

abbrev pub invariant-loop-left : goal.invariant-loop-left
invariant-loop-left l = record {
  bound : l.left ≤ length l.versions;
  same : all_above l.tree l.at (take l.left (writers l.versions))
      ≡ all_above l.tree l.fn.a (holders (versions_newest_first l.versions));
}

abbrev pub decreases-loop-left : goal.decreases-loop-left
decreases-loop-left l = l.left
