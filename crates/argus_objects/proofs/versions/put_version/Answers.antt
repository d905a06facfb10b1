-- The newest version gets the content, or one is pushed above lower holders.
use Rattle.std.proofs.{Common.arith, lemmas.{List.get_or_default, Grind.common_steps}}
use Rattle.argus_objects.proofs.Stacks.{same_id, version_set, version_pushed, all_lower, none_lower}
use Rattle.argus_objects.proofs.versions.put_version.Goals as goal

pub returns-then-index-a-clause-versions : goal.returns-then-index-a-clause-versions
returns-then-index-a-clause-versions c = grind (arith, common_steps, same_id, get_or_default, version_set)

pub returns-else-held-gt0-clause-versions : goal.returns-else-held-gt0-clause-versions
returns-else-held-gt0-clause-versions c = grind (arith, common_steps, all_lower, none_lower, version_pushed)
