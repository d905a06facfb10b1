-- An action past the newest reader is none.
use Rattle.std.proofs.{Common.arith, lemmas.Grind.common_steps}
use Rattle.argus_objects.proofs.Parted.{past_newest, seen}
use Rattle.argus_objects.proofs.readers.Readers.has.Goals as goal

pub returns-then-taken-eq0 : goal.returns-then-taken-eq0
returns-then-taken-eq0 c = grind (arith, common_steps, seen, past_newest)
