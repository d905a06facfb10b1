-- What is left of the readers decides, asked of the last one that was found above.
use Rattle.std.proofs.Common.{◌≡◌, ◌≤◌, length, take}
use Rattle.argus_objects.specs.Rules.{all_above}
use Rattle.argus_objects.proofs.readers.all_readers_above.Given as goal

abbrev pub invariant-loop-left : goal.invariant-loop-left
invariant-loop-left l = record {
  bound : l.left ≤ length l.readers;
  same : all_above l.tree l.at (take l.left l.readers) ≡ all_above l.tree l.fn.a l.readers;
}

abbrev pub decreases-loop-left : goal.decreases-loop-left
decreases-loop-left l = l.left
