-- A list of no objects has none twice.
use Rattle.argus_objects.proofs.Distinct.{distinct_none}
use Rattle.argus_objects.proofs.object_list.ObjectList.clear.Goals as goal

pub invariant_of-self : goal.invariant_of-self
invariant_of-self c = rw c.clear.ensures.items distinct_none
