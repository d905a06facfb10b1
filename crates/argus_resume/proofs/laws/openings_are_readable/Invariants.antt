-- The objects so far are well formed.
use Rattle.std.proofs.Common.{map, take}
use Rattle.argus_journal.specs.Opening.{plain_object}
use Rattle.argus_resume.specs.WellFormed.{AreWellFormedObjects}
use Rattle.argus_resume.proofs.laws.openings_are_readable.Given as goal

abbrev pub invariant-loop-object : goal.invariant-loop-object
invariant-loop-object l = AreWellFormedObjects (map plain_object (take l.object-index l.objects))
