-- An empty place in front is that of an action that had none.
use Rattle.std.proofs.{Common.arith, lemmas.Grind.common_steps}
use Rattle.argus_objects.proofs.Places.{place_front}
use Rattle.argus_objects.proofs.holdings.Holdings.begin_at.Goals as goal

pub loop-self-preserved : goal.loop-self-preserved
loop-self-preserved c = grind (arith, common_steps, place_front)
