-- Committed work, run again, gives its answers again and leaves the bases: a law of a guardian's legal journal.
use Rattle.argus_journal.specs.LegalJournal.{entries_in, opening_in}
use Rattle.argus_core.proofs.guardian.Guardian.committed_work_runs_again.Goals as goal

pub returns-clause-answers : goal.returns-clause-answers
returns-clause-answers c =
    let g = c.self.inside.state in
    rw (← c.self.view_is)
    (c.committed_work_runs_again.ensures.answers (opening_in g.journal) (entries_in g.journal) c.self.invariant.legal)

pub returns-clause-each : goal.returns-clause-each
returns-clause-each c =
    let g = c.self.inside.state in
    rw (← c.self.view_is)
    (λ later e earlier q. c.committed_work_runs_again.ensures.each
    (opening_in g.journal) (entries_in g.journal) later e earlier c.self.invariant.legal q)

pub returns-clause-leaves : goal.returns-clause-leaves
returns-clause-leaves c =
    let g = c.self.inside.state in
    rw (← c.self.view_is)
    (λ o. c.committed_work_runs_again.ensures.leaves
    (opening_in g.journal) (entries_in g.journal) o c.self.invariant.legal)
