-- A longer front would have the line at fault.
use Rattle.argus_resume.proofs.NextLines.{no_longer}
use Rattle.argus_resume.proofs.laws.no_longer_front_is_a_listing.Goals as goal

pub returns : goal.returns
returns c = no_longer
