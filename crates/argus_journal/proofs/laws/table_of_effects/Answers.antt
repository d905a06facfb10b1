-- The proof of the laws that stand on `table_of_effects`.
use Rattle.std.proofs.{Common.arith, lemmas.Bool.Decides.nat_tests}
use Rattle.argus_model.proofs.{Commits.written_are_held, Theorems.table_is_base}
use Rattle.argus_journal.{specs.{Entries.entries, Events.history, Opening.model_opening}, proofs.Legal.lawful}
use Rattle.argus_journal.proofs.{NextEntry.writers_above, Serial.effects_added, Shifted.contains_in_program}
use Rattle.argus_journal.proofs.laws.table_of_effects.Goals as goal

pub returns : goal.returns
returns c = record {
  base = λ s j o l. table_is_base entries (model_opening s) (history s j) o (lawful s j l);
  grows = effects_added;
  written = grind (arith, nat_tests, written_are_held, lawful, contains_in_program, writers_above);
}
