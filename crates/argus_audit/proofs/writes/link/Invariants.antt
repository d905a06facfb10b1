-- The entries from this place on are linked.
use Rattle.std.proofs.Common.{reverse}
use Rattle.argus_audit.specs.Writes.{AreHeads, AreLinks}
use Rattle.argus_journal.specs.Journal.{entries_of}
use Rattle.argus_audit.proofs.writes.link.Given as goal

abbrev pub invariant-loop-place : goal.invariant-loop-place
invariant-loop-place l = record {
  heads : AreHeads (reverse (entries_of l.journal)) l.place l.first;
  links : AreLinks (reverse (entries_of l.journal)) l.next;
}

abbrev pub decreases-loop-place : goal.decreases-loop-place
decreases-loop-place l = l.place
