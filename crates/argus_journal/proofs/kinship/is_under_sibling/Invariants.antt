-- The entries that are left decide.
use Rattle.std.proofs.Common.{◌≡◌}
use Rattle.argus_journal.specs.{Journal.{HasEntries, first_entries_of}, Replaying.is_under_sibling_by_entries}
use Rattle.argus_journal.proofs.kinship.is_under_sibling.Given as goal

abbrev pub invariant-loop-entry : goal.invariant-loop-entry
invariant-loop-entry l = HasEntries l.journal l.left × (is_under_sibling_by_entries (first_entries_of l.journal l.left) l.c.0 l.b.0 l.at.0 ≡ is_under_sibling_by_entries
    (first_entries_of l.journal l.count) l.c.0 l.b.0 l.fn.x.0)

abbrev pub decreases-loop-entry : goal.decreases-loop-entry
decreases-loop-entry l = l.left
