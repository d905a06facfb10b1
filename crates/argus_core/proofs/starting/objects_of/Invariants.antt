-- The objects so far have the shapes and contents so far, and no holder.
use Rattle.std.proofs.Common.{All, map, take, ◌≡◌}
use Rattle.argus_core.{specs.Checkpoint.opened_objects, proofs.Started.IsFree}
use Rattle.argus_journal.specs.Opening.{plain_object}
use Rattle.argus_core.proofs.starting.objects_of.Given as goal

abbrev pub invariant-loop-shape : goal.invariant-loop-shape
invariant-loop-shape l =
    (opened_objects l.objects.items ≡ map plain_object (take l.shape-index l.opened)) × All IsFree l.objects.items
