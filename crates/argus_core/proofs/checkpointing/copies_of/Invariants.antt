-- The copies so far are those of the objects so far.
use Rattle.std.proofs.Common.{map, take, ◌≡◌}
use Rattle.argus_core.specs.Checkpoint.{opened_objects}
use Rattle.argus_journal.specs.Opening.{plain_object}
use Rattle.argus_core.proofs.checkpointing.copies_of.Given as goal

abbrev pub invariant-loop-object : goal.invariant-loop-object
invariant-loop-object l = map plain_object l.copies.items ≡ opened_objects (take l.object-index l.objects)
