-- The last object tells where the lines end.
use Rattle.argus_resume.proofs.Ends.{last_found}
use Rattle.argus_resume.proofs.opening_lines.OpeningLines.end.Goals as goal

pub returns-in-Some : goal.returns-in-Some
returns-in-Some c = last_found c.args.self.now c.requires c.in-Some.object.now c.deref.result.now c.deref.ensures.value
    c.in-Some.ensures.value
