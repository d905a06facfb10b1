-- All below the next number are over, by aborts of the topactions among them that were live.
use Rattle.argus_core.{proofs.AbortingLive.IsOverBelow, specs.GuardianState.{StateInvariant, journal_view_of}}
use Rattle.argus_core.proofs.aborting_live.abort_each.Given as goal

abbrev pub invariant-loop-a : goal.invariant-loop-a
invariant-loop-a l =
    StateInvariant l.state × IsOverBelow (journal_view_of l.initial.state) (journal_view_of l.state) l.a
