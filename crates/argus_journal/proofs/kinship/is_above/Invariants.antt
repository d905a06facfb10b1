-- The entries that are left decide.
use Rattle.std.proofs.Common.{◌≡◌}
use Rattle.argus_journal.specs.{Journal.{HasEntries, first_entries_of}, Replaying.is_ancestor_by_entries}
use Rattle.argus_journal.proofs.kinship.is_above.Given as goal

abbrev pub invariant-loop-entry : goal.invariant-loop-entry
invariant-loop-entry l = HasEntries l.journal l.left × (is_ancestor_by_entries (first_entries_of l.journal l.left) l.x.0 l.at.0 ≡ is_ancestor_by_entries
    (first_entries_of l.journal l.count) l.x.0 l.fn.a.0)

abbrev pub decreases-loop-entry : goal.decreases-loop-entry
decreases-loop-entry l = l.left
