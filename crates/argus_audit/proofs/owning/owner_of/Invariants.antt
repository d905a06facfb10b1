-- The action that is reached has the same owner.
use Rattle.std.proofs.Common.{◌≡◌}
use Rattle.argus_journal.specs.{Journal.{entries_of, opening_of}, JournalFacts.owner_in}
use Rattle.argus_audit.proofs.owning.owner_of.Given as goal

abbrev pub invariant-loop-parent : goal.invariant-loop-parent
invariant-loop-parent l =
    owner_in (opening_of l.journal) (entries_of l.journal) l.at.0
    ≡ owner_in (opening_of l.journal) (entries_of l.journal) l.fn.a.0

abbrev pub decreases-loop-parent : goal.decreases-loop-parent
decreases-loop-parent l = l.at.0
