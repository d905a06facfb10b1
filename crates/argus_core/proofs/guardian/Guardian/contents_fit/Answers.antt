-- Bases, and what actions see, fit the objects' shapes: a law of a guardian's legal journal.
use Rattle.argus_journal.specs.LegalJournal.{entries_in, opening_in}
use Rattle.argus_core.proofs.guardian.Guardian.contents_fit.Goals as goal

pub returns-clause-base : goal.returns-clause-base
returns-clause-base c =
    let g = c.self.inside.state in
    rw (← c.self.view_is)
    (λ o. c.contents_fit.ensures.base
    (opening_in g.journal) (entries_in g.journal) o c.self.invariant.sound c.self.invariant.legal)

pub returns-clause-seen : goal.returns-clause-seen
returns-clause-seen c =
    let g = c.self.inside.state in
    rw (← c.self.view_is)
    (λ a o. c.contents_fit.ensures.seen
    (opening_in g.journal) (entries_in g.journal) a o c.self.invariant.sound c.self.invariant.legal)
