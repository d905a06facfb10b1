-- The holders of a lawful cell are a chain.
use Rattle.argus_objects.proofs.Lawful.{lawful_parts}
use Rattle.std.proofs.{lemmas.Grind.common_steps, Common.arith}
use Rattle.argus_objects.proofs.cell.Cell.is_readable.Goals as goal

pub is_newest_above-requires : goal.is_newest_above-requires
is_newest_above-requires c = grind (arith, common_steps, lawful_parts)

pub returns : goal.returns
returns c = rw (← c.self.view_is) (rw c.as_slice.ensures.value at c.is_newest_above.ensures)
