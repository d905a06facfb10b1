-- Which sharing this is.
use Rattle.argus_bench.proofs.sharing.run.Given as goal
use Rattle.argus_guardian.specs.Starting.{board_with}
use Rattle.argus_journal.specs.JournalView.{next_entry}

abbrev pub ghosts-time_shared-N-Ledger : goal.ghosts-time_shared-N-Ledger
ghosts-time_shared-N-Ledger g a = record { name = a.blank.name; parts = a.blank.parts }

abbrev pub ghosts-time_shared-N-Board : goal.ghosts-time_shared-N-Board
ghosts-time_shared-N-Board g a = board_with a.keeper a.lookers a.guardian

abbrev pub ghosts-time_shared-N-Sharing : goal.ghosts-time_shared-N-Sharing
ghosts-time_shared-N-Sharing g a = record { start = next_entry a.guardian }
