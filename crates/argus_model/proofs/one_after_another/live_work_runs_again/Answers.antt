-- The proof of the laws that stand on `live_work_runs_again`.
use Rattle.argus_model.proofs.Recorded.{serial_to_recorded}
use Rattle.argus_model.proofs.Theorems.{live_answers, live_begins, live_each, live_leaves}
use Rattle.argus_model.proofs.one_after_another.live_work_runs_again.Goals as goal

pub returns : goal.returns
returns g c = record {
  answers = live_answers;
  each = live_each;
  recorded = serial_to_recorded;
  begins = live_begins;
  leaves = live_leaves;
}
