-- A live action's work, run behind the committed, gives its answers again: a law of a guardian's legal journal.
use Rattle.argus_journal.specs.LegalJournal.{entries_in, opening_in}
use Rattle.argus_core.proofs.guardian.Guardian.live_work_runs_again.Goals as goal

pub returns-clause-begins : goal.returns-clause-begins
returns-clause-begins c =
    let g = c.self.inside.state in
    rw (← c.self.view_is)
    (λ a live. c.live_work_runs_again.ensures.begins
    (opening_in g.journal) (entries_in g.journal) a c.self.invariant.legal live)

pub returns-clause-answers : goal.returns-clause-answers
returns-clause-answers c =
    let g = c.self.inside.state in
    rw (← c.self.view_is)
    (λ a live. c.live_work_runs_again.ensures.answers
    (opening_in g.journal) (entries_in g.journal) a c.self.invariant.legal live)

pub returns-clause-each : goal.returns-clause-each
returns-clause-each c =
    let g = c.self.inside.state in
    rw (← c.self.view_is)
    (λ a later e earlier live q. c.live_work_runs_again.ensures.each
    (opening_in g.journal) (entries_in g.journal) a later e earlier c.self.invariant.legal live q)

pub returns-clause-leaves : goal.returns-clause-leaves
returns-clause-leaves c =
    let g = c.self.inside.state in
    rw (← c.self.view_is)
    (λ a o live. c.live_work_runs_again.ensures.leaves
    (opening_in g.journal) (entries_in g.journal) a o c.self.invariant.legal live)
