-- Where there is a version, the newest decides.
use Rattle.std.proofs.{Common.arith, lemmas.Grind.common_steps}
use Rattle.argus_objects.proofs.Changes.{newest_decides}
use Rattle.argus_objects.proofs.versions.is_newest.Goals as goal

pub returns-then-held-gt0 : goal.returns-then-held-gt0
returns-then-held-gt0 c = grind (arith, common_steps, newest_decides)
