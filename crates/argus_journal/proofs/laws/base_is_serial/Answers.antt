-- The proof of the law that stands on `base_is_serial`.
use Rattle.argus_model.proofs.Theorems.{serial_content}
use Rattle.argus_journal.{specs.{Entries.entries, Events.history, Opening.model_opening}, proofs.Legal.lawful}
use Rattle.argus_journal.proofs.laws.base_is_serial.Goals as goal

pub returns : goal.returns
returns c = λ s j o l. serial_content entries (model_opening s) (history s j) o (lawful s j l)
