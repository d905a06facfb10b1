-- Of a writer and any other holder one is the other's ancestor: a law of a guardian's legal journal.
use Rattle.argus_journal.specs.LegalJournal.{entries_in, opening_in}
use Rattle.argus_core.proofs.guardian.Guardian.exclusion.Goals as goal

pub returns-clause-related : goal.returns-clause-related
returns-clause-related c =
    let g = c.self.inside.state in
    rw (← c.self.view_is)
    (λ o x y m n. c.exclusion.ensures.related
    (opening_in g.journal) (entries_in g.journal) o x y c.self.invariant.legal m n)

pub returns-clause-chain : goal.returns-clause-chain
returns-clause-chain c =
    let g = c.self.inside.state in
    rw (← c.self.view_is)
    (λ o x y m n lt. c.exclusion.ensures.chain
    (opening_in g.journal) (entries_in g.journal) o x y c.self.invariant.legal m n lt)

pub returns-clause-live : goal.returns-clause-live
returns-clause-live c =
    let g = c.self.inside.state in
    rw (← c.self.view_is)
    (λ o x m. c.exclusion.ensures.live (opening_in g.journal) (entries_in g.journal) o x c.self.invariant.legal m)
