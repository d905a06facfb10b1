-- The first line that is left is one that the journal has next.
use Rattle.argus_resume.proofs.NextLines.{none_within}
use Rattle.argus_resume.proofs.laws.listings_have_no_fault.Goals as goal

pub returns : goal.returns
returns c = none_within
