-- The newest version stands on top of a chain.
use Rattle.std.proofs.{Common.arith, lemmas.Grind.common_steps}
use Rattle.argus_objects.proofs.{Chains.newest_above, Changes.newest_top}
use Rattle.argus_objects.proofs.versions.is_newest_above.Goals as goal

pub returns-else-held-eq0 : goal.returns-else-held-eq0
returns-else-held-eq0 c = grind (arith, common_steps, newest_top, newest_above)
