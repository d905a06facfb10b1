-- Which sharing this is.
use Rattle.argus_guardian.specs.Starting.{board_with}
use Rattle.argus_journal.specs.JournalView.{next_entry}
use Rattle.argus_cli.proofs.running_by_workers.run_by_workers.Given as goal

abbrev pub ghosts-share-N-Ledger : goal.ghosts-share-N-Ledger
ghosts-share-N-Ledger g a = record { name = a.blank.name; parts = a.blank.parts }

abbrev pub ghosts-share-N-Board : goal.ghosts-share-N-Board
ghosts-share-N-Board g a = board_with a.keeper 0 a.guardian

abbrev pub ghosts-share-N-Sharing : goal.ghosts-share-N-Sharing
ghosts-share-N-Sharing g a = record { start = next_entry a.guardian }
