-- The tree is that of the entries so far.
use Rattle.argus_audit.specs.Places.{first_entries}
use Rattle.argus_journal.specs.{Events.history, Journal.{entries_of, opening_of}}
use Rattle.argus_refinement.specs.TreeRefinement.{IsTree}
use Rattle.argus_audit.proofs.retracing.retrace.Given as goal

abbrev pub invariant-loop-place : goal.invariant-loop-place
invariant-loop-place l =
    IsTree l.tree (history (opening_of l.journal) (first_entries (entries_of l.journal) l.place))
