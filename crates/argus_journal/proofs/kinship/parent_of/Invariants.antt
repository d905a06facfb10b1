-- The entries that are left decide.
use Rattle.std.proofs.Common.{◌≡◌}
use Rattle.argus_journal.specs.{Journal.{HasEntries, first_entries_of}, Replaying.parent_by_entries}
use Rattle.argus_journal.proofs.kinship.parent_of.Given as goal

abbrev pub invariant-loop-entry : goal.invariant-loop-entry
invariant-loop-entry l = HasEntries l.journal l.left × (parent_by_entries (first_entries_of l.journal l.left) l.a.0 ≡ parent_by_entries
    (first_entries_of l.journal l.count) l.a.0)

abbrev pub decreases-loop-entry : goal.decreases-loop-entry
decreases-loop-entry l = l.left
