-- Of holders in increasing number the last decides.
use Rattle.std.proofs.{Common.arith, lemmas.Grind.common_steps}
use Rattle.argus_objects.proofs.Changes.{last_decides}
use Rattle.argus_objects.proofs.versions.is_past_older.Goals as goal

pub returns-then-held-lt2 : goal.returns-then-held-lt2
returns-then-held-lt2 c = grind (arith, common_steps)

pub returns-else-held-lt2 : goal.returns-else-held-lt2
returns-else-held-lt2 c = grind (arith, common_steps, last_decides)
