-- What is in an object for good fits its shape, since the journal is legal.
use Rattle.argus_journal.{proofs.Contents.content_fits, specs.{Events.history, LegalJournal.{entries_in, opening_in}}}
use Rattle.argus_model.specs.Owner.{is_base, owner}
use Rattle.argus_core.proofs.guardian.Guardian.base.Goals as goal

pub returns-in-Some-clause-fits : goal.returns-in-Some-clause-fits
returns-in-Some-clause-fits c =
    let g = c.self.inside.state in
    let s = opening_in g.journal in
    let j = entries_in g.journal in
    rw (← c.self.view_is)
    (content_fits (λ b. is_base (owner (history s j) b)) s j c.args.o.0 c.self.invariant.sound c.self.invariant.legal)

pub returns-in-None-clause-fits : goal.returns-in-None-clause-fits
returns-in-None-clause-fits c =
    let g = c.self.inside.state in
    let s = opening_in g.journal in
    let j = entries_in g.journal in
    rw (← c.self.view_is)
    (content_fits (λ b. is_base (owner (history s j) b)) s j c.args.o.0 c.self.invariant.sound c.self.invariant.legal)
