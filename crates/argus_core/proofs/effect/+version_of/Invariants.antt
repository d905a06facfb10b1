-- There are fewer versions each time.
use Rattle.std.proofs.Common.{length}
use Rattle.argus_core.proofs.effect.+version_of.Given as goal

abbrev pub decreases-version_of : goal.decreases-version_of
decreases-version_of l = length l.versions.now
