-- The proof of the law that stands on `committed_work_is_complete`.
use Rattle.argus_model.proofs.Topaction.{serial_complete}
use Rattle.argus_journal.{specs.{Entries.entries, Events.history, Opening.model_opening}, proofs.Legal.lawful}
use Rattle.argus_journal.proofs.laws.committed_work_is_complete.Goals as goal

pub returns : goal.returns
returns c = λ s j l. serial_complete entries (model_opening s) (history s j) (lawful s j l)
