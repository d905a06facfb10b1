-- Noting what is left gives the same list.
use Rattle.std.proofs.Common.{◌≡◌, ◌≤◌, ◌+◌, length, drop}
use Rattle.argus_objects.specs.ObjectList.{passed}
use Rattle.argus_objects.proofs.object_list.ObjectList.note_all.Given as goal

abbrev pub invariant-loop-o : goal.invariant-loop-o
invariant-loop-o l = record {
  room : length l.objects ≤ l.self.room + l.o-index;
  same : passed (drop l.o-index l.objects) l.self.objects ≡ passed l.objects l.initial.self.objects;
}
