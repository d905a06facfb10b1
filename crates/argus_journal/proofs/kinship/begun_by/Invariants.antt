-- The entries that are left decide.
use Rattle.std.proofs.Common.{◌≡◌}
use Rattle.argus_journal.specs.{Journal.{HasEntries, first_entries_of}, Replaying.begun_by_entries}
use Rattle.argus_journal.proofs.kinship.begun_by.Given as goal

abbrev pub invariant-loop-entry : goal.invariant-loop-entry
invariant-loop-entry l = HasEntries l.journal l.left × (begun_by_entries (first_entries_of l.journal l.left) l.a.0 ≡ begun_by_entries
    (first_entries_of l.journal l.count) l.a.0)

abbrev pub decreases-loop-entry : goal.decreases-loop-entry
decreases-loop-entry l = l.left
