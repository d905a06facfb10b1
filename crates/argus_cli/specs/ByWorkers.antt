-- What a run by several workers leaves.
use Rattle.std.specs.Prelude.{All, List, length, ◌≡◌}
use Rattle.argus_commands.specs.{Script.PlainScript, Played.Tells, RunCheck.{IsCheckedRun, entries_of_receipts}}
use Rattle.argus_commands.specs.workers_declared.arm_outcome.ArmOutcome.{ArmOutcome}
use Rattle.argus_journal.specs.{Legal.Legal, Opening.empty, JournalView.JournalView}
use Rattle.argus_guardian.specs.{Checking.{AreApart, Stands}, Receipt.PlainReceipt}

-- Several workers ran the script on a new guardian, and this is its journal: its entries, each
-- once, are those of receipts that show a run of the script.
pub record IsLeftByWorkers (script : PlainScript) (journal : JournalView) : Type 0 where
  pub fresh : journal.opening ≡ empty
  pub legal : Legal journal.opening journal.entries
  -- in the order of the script
  pub receipts : List PlainReceipt
  pub told : Tells script (entries_of_receipts receipts)
  -- of two calls that aren't made by two arms of one coenter, the earlier one came first
  pub outcomes : List ArmOutcome
  pub checked : IsCheckedRun script receipts outcomes
  -- each is of an entry, no two are of the same, and there are as many as entries
  pub stand : All (Stands journal.opening journal.entries) receipts
  pub apart : AreApart receipts
  pub count : length receipts ≡ length journal.entries
