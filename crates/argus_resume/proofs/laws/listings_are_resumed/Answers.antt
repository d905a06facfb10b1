-- The reader has nothing left, and the guardian's journal is the listing's.
use Rattle.argus_resume.proofs.NextLines.{resumed_back}
use Rattle.argus_resume.proofs.laws.listings_are_resumed.Goals as goal

pub returns : goal.returns
returns c = resumed_back
