-- The law of what is shown.
use Rattle.std.specs.Prelude.{List}
use Rattle.argus_language.specs.Script.{PlainScript}
use Rattle.argus_sharing.specs.Receipt.{PlainReceipt}
use Rattle.argus_runs.specs.Played.{Tells}
use Rattle.argus_workers.specs.RunCheck.{IsCheckedRun, entries_of_receipts}
use Rattle.argus_workers.specs.declared.arm_outcome.ArmOutcome.{ArmOutcome}

-- receipts that show a run of a script are that run's
abbrev pub CheckedRunsAreRuns : Type 0
CheckedRunsAreRuns = (script : PlainScript) (receipts : List PlainReceipt)
    (outcomes : List ArmOutcome)
    → IsCheckedRun script receipts outcomes → Tells script (entries_of_receipts receipts)
