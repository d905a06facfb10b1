-- The guardian's listing is the first bytes of what was read.
use Rattle.argus_resume.proofs.Readings.{is_resumed}
use Rattle.argus_resume.proofs.reading.resume.Goals as goal

pub returns-in-Ok-clause-resumed : goal.returns-in-Ok-clause-resumed
returns-in-Ok-clause-resumed g c =
    is_resumed _ _ _ _ _ _ c.new-resuming.ensures c.into_guardian.ensures.readable c.take_from-bytes.ensures
    c.in-Ok.ensures.guardian c.in-Ok.ensures.front c.in-Ok.ensures.dropped
