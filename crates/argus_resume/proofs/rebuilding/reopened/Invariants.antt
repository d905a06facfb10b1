-- The copies so far are those of the opening's objects so far.
use Rattle.std.proofs.Common.{length, map, take, ◌-◌, ◌≡◌, ◌≤◌}
use Rattle.argus_journal.specs.{Journal.opening_of, Opening.plain_object}
use Rattle.argus_resume.proofs.rebuilding.reopened.Given as goal

abbrev pub invariant-loop-shape : goal.invariant-loop-shape
invariant-loop-shape l = record {
  within : l.o ≤ length (opening_of l.journal).objects;
  copied : map plain_object l.objects.items ≡ take l.o (opening_of l.journal).objects;
}

abbrev pub decreases-loop-shape : goal.decreases-loop-shape
decreases-loop-shape l = length (opening_of l.journal).objects - l.o
