-- The proof of the laws that stand on `exclusion`.
use Rattle.argus_model.proofs.Theorems.{one_above_the_other, writers_in_line}
use Rattle.argus_model.proofs.locks.exclusion.Goals as goal

pub returns : goal.returns
returns g c = record {
  related = one_above_the_other;
  chain = writers_in_line;
}
