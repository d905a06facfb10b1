-- Each list by itself.
use Rattle.argus_objects.proofs.Stacks.{has_newest}
use Rattle.std.proofs.{lemmas.Grind.common_steps, Common.arith}
use Rattle.argus_objects.proofs.cell.Cell.has_holder.Goals as goal

pub returns-else-has : goal.returns-else-has
returns-else-has c = grind (arith, common_steps, has_newest)
