-- The proof of the laws that stand on `committed_work_runs_again`.
use Rattle.argus_model.proofs.{Recorded.serial_recorded, Theorems.{serial_answers, serial_each, serial_leaves}}
use Rattle.argus_model.proofs.one_after_another.committed_work_runs_again.Goals as goal

pub returns : goal.returns
returns g c = record {
  answers = serial_answers;
  each = serial_each;
  recorded = serial_recorded;
  leaves = serial_leaves;
}
