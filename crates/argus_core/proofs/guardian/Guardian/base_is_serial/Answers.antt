-- The bases are what the serial run leaves: a law of a guardian's legal journal.
use Rattle.argus_journal.specs.LegalJournal.{entries_in, opening_in}
use Rattle.argus_core.proofs.guardian.Guardian.base_is_serial.Goals as goal

pub returns : goal.returns
returns c =
    let g = c.self.inside.state in
    rw (← c.self.view_is)
    (λ o. c.base_is_serial.ensures (opening_in g.journal) (entries_in g.journal) o c.self.invariant.legal)
