-- A list of no objects has none twice.
use Rattle.argus_objects.proofs.Distinct.{distinct_none}
use Rattle.argus_objects.proofs.object_list.ObjectList.new.Goals as goal

pub invariant_of-result : goal.invariant_of-result
invariant_of-result c = rw c.new.ensures.items distinct_none
