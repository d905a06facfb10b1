-- Where all others stand before the parent, the newest version gets another holder.
use Rattle.std.proofs.{Common.arith, lemmas.{List.get_or_default, Grind.common_steps}}
use Rattle.argus_objects.proofs.Changes.{handed_in_place}
use Rattle.argus_objects.proofs.versions.inherit_version.Goals as goal

pub returns-then-is_past_older-clause-versions : goal.returns-then-is_past_older-clause-versions
returns-then-is_past_older-clause-versions c = grind (arith, common_steps, handed_in_place, get_or_default)
