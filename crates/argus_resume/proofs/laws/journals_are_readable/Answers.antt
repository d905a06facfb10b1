-- By induction over the entries.
use Rattle.argus_resume.proofs.Readable.{calls_of_readable, readable_by_calls}
use Rattle.argus_resume.proofs.laws.journals_are_readable.Goals as goal

pub returns : goal.returns
returns c = λ journal legal sound begins.
    (calls_of_readable journal.entries, readable_by_calls journal.opening begins sound journal.entries legal)
