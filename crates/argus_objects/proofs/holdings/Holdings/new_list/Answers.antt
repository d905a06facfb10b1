-- Nobody has anything in a list of no objects.
use Rattle.argus_objects.proofs.Places.{list_more}
use Rattle.std.proofs.{lemmas.Grind.common_steps, Common.arith}
use Rattle.argus_objects.proofs.holdings.Holdings.new_list.Goals as goal

pub returns-clause-same : goal.returns-clause-same
returns-clause-same c = grind (arith, common_steps, list_more)
