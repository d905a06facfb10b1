-- Which sharing this is.
use Rattle.argus_guardian.specs.Starting.{board_with}
use Rattle.argus_journal.specs.JournalView.{next_entry}
use Rattle.guardian_tests.proofs.sharing.share_once.Given as goal

abbrev pub ghosts-share_as-N-Ledger : goal.ghosts-share_as-N-Ledger
ghosts-share_as-N-Ledger g a = record { name = a.blank.name; parts = a.blank.parts }

abbrev pub ghosts-share_as-N-Board : goal.ghosts-share_as-N-Board
ghosts-share_as-N-Board g a = board_with a.keeper a.lookers a.taken

abbrev pub ghosts-share_as-N-Sharing : goal.ghosts-share_as-N-Sharing
ghosts-share_as-N-Sharing g a = record { start = next_entry a.taken }
