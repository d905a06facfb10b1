-- There are fewer versions each time.
use Rattle.std.proofs.Common.{length}
use Rattle.argus_objects.proofs.versions.+are_chained.Given as goal

abbrev pub decreases-are_chained : goal.decreases-are_chained
decreases-are_chained l = length l.versions.now
