-- Entries came before the line.
use Rattle.std.proofs.Common.{rules}
use Rattle.argus_resume.proofs.Openings.{of_opening, opening_utf8}
use Rattle.argus_resume.proofs.staging.take_opening_line.Goals as goal

pub returns-then-len-gt0-clause-fault : goal.returns-then-len-gt0-clause-fault
returns-then-len-gt0-clause-fault c =
    (opening_utf8 c.args.rest.now c.utf8.rest, of_opening c.args.rest.now, search rules)
