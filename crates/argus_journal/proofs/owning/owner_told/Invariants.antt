-- The owner so far is what the entries so far tell.
use Rattle.std.proofs.Common.{◌≡◌}
use Rattle.argus_journal.specs.{Journal.{first_entries_of, opening_of}, Replaying.owner_by_entries}
use Rattle.argus_journal.proofs.owning.owner_told.Given as goal

abbrev pub invariant-loop-older : goal.invariant-loop-older
invariant-loop-older l =
    l.owner ≡ owner_by_entries (opening_of l.journal).first_action (first_entries_of l.journal l.older) l.a.0
