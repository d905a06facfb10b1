-- The faults of a line exclude one another.
use Rattle.argus_resume.proofs.OneFault.{one_fault}
use Rattle.argus_resume.proofs.laws.lines_have_one_fault.Goals as goal

pub returns : goal.returns
returns c = one_fault c.texts_have_one_error.ensures
