-- The proof of the laws that stand on `table_of_effects`.
use Rattle.argus_model.proofs.{Commits.effects_step, Theorems.{table_after, table_is_base}}
use Rattle.argus_model.proofs.tables.table_of_effects.Goals as goal

pub returns : goal.returns
returns g c = record {
  base = table_is_base;
  grows = effects_step;
  goes_on = table_after;
}
