-- The values of the change are of the shape's types.
use Rattle.argus_entries.proofs.Suiting.{suiting_depth}
use Rattle.argus_entries.proofs.laws.suiting_changes_keep_the_depth.Goals as goal

pub returns : goal.returns
returns c = suiting_depth
