-- The proof of the laws that stand on `checkpoint`.
use Rattle.std.proofs.Common.{refl}
use Rattle.argus_model.proofs.Commits.{fold_numbers, fold_table}
use Rattle.argus_model.proofs.tables.checkpoint.Goals as goal

pub returns : goal.returns
returns g c = record {
  lawful = λ meaning opening h entries. refl;
  base = λ meaning opening h entries o. refl;
  numbers = λ meaning opening h l. fold_numbers meaning opening h;
  table = fold_table;
}
