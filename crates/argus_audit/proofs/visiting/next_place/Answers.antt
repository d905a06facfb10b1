-- The writes are those of the journal's audit.
use Rattle.std.proofs.Common.{reverse, subst, sym}
use Rattle.argus_audit.specs.Writes.{AreWrites}
use Rattle.argus_journal.specs.Journal.{entries_of}
use Rattle.argus_audit.proofs.visiting.next_place.Goals as goal

pub next-requires-clause-writes : goal.next-requires-clause-writes
next-requires-clause-writes c =
    subst (λ writes. AreWrites writes (reverse (entries_of c.args.journal.now))) (sym c.writes.ensures)
    c.requires.audit.writes
