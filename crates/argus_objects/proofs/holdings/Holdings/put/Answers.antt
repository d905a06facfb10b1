-- The place within is the action's.
use Rattle.argus_objects.proofs.Places.{place_put}
use Rattle.std.proofs.{lemmas.Grind.common_steps, Common.arith}
use Rattle.argus_objects.proofs.holdings.Holdings.put.Goals as goal

pub returns-in-Some-clause-places : goal.returns-in-Some-clause-places
returns-in-Some-clause-places c = grind (arith, common_steps, place_put)
