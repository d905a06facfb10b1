-- An empty place at the end is that of an action that had none.
use Rattle.argus_objects.proofs.Places.{place_push}
use Rattle.std.proofs.{lemmas.Grind.common_steps, Common.arith}
use Rattle.argus_objects.proofs.holdings.Holdings.reserve_place.Goals as goal

pub loop-self-preserved : goal.loop-self-preserved
loop-self-preserved c = grind (arith, common_steps, place_push)
