-- The line doesn't begin an opening.
use Rattle.argus_resume.proofs.Openings.{no_first}
use Rattle.argus_resume.proofs.opening_taking.first_line.Goals as goal

pub returns-in-Err-Left-clause-fault : goal.returns-in-Err-Left-clause-fault
returns-in-Err-Left-clause-fault c = λ journal h.
    no_first journal c.args.rest.now h c.utf8.rest (rw c.in-Err-Left.field-0-is at c.in-Err-Left.ensures.stops)
