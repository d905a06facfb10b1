-- With the version of the parent gone, that of the subaction takes its place.
use Rattle.std.proofs.{Common.arith, lemmas.{List.{drop_all, take_all, append-nil}, Grind.common_steps}}
use Rattle.argus_objects.proofs.Stacks.{has_newest, map_reverse}
use Rattle.argus_objects.proofs.versions.hand_over.Goals as goal

pub returns-then-has_version-clause-versions : goal.returns-then-has_version-clause-versions
returns-then-has_version-clause-versions c =
    grind (arith, common_steps, drop_all, append-nil, take_all, has_newest, map_reverse)

pub returns-else-has_version-clause-versions : goal.returns-else-has_version-clause-versions
returns-else-has_version-clause-versions c = grind (arith, common_steps, has_newest)
