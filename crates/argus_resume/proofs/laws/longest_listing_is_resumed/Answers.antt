-- A longer one would have the line at fault, and a shorter one is a sound front of what was taken.
use Rattle.argus_resume.proofs.Longest.{longest_resumed}
use Rattle.argus_resume.proofs.laws.longest_listing_is_resumed.Goals as goal

pub returns : goal.returns
returns c = longest_resumed
