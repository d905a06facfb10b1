-- Which sharing this is.
use Rattle.argus_guardian.specs.Starting.{board_with}
use Rattle.argus_journal.specs.JournalView.{next_entry}
use Rattle.guardian_tests.proofs.two_threads.print_payments.Given as goal

abbrev pub ghosts-pay_from_threads-N-Ledger : goal.ghosts-pay_from_threads-N-Ledger
ghosts-pay_from_threads-N-Ledger g a = record { name = a.blank.name; parts = a.blank.parts }

abbrev pub ghosts-pay_from_threads-N-Board : goal.ghosts-pay_from_threads-N-Board
ghosts-pay_from_threads-N-Board g a = board_with a.keeper 0 a.guardian

abbrev pub ghosts-pay_from_threads-N-Sharing : goal.ghosts-pay_from_threads-N-Sharing
ghosts-pay_from_threads-N-Sharing g a = record { start = next_entry a.guardian }
