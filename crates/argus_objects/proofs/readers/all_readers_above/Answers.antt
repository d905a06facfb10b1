-- One reader more is above, or the answer is known.
use Rattle.std.proofs.{Common.arith, lemmas.Grind.common_steps}
use Rattle.argus_objects.proofs.Ascending.{climb_on, climb_off}
use Rattle.argus_objects.proofs.readers.all_readers_above.Goals as goal

pub loop-left-preserved : goal.loop-left-preserved
loop-left-preserved c = grind (arith, common_steps, climb_on)

pub returns-then-not-is_ancestor : goal.returns-then-not-is_ancestor
returns-then-not-is_ancestor c = grind (arith, common_steps, climb_off)
