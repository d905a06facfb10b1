-- Receipts that show a run tell it.
use Rattle.argus_workers.proofs.CheckedRuns.{checked-runs-are-runs}
use Rattle.argus_workers.proofs.laws.checked_runs_are_runs.Goals as goal

pub returns : goal.returns
returns c = checked-runs-are-runs
