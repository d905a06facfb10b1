-- The proof of the laws that stand on `committed_work_runs_again`.
use Rattle.argus_model.{specs.Work.content_before, proofs.{Recorded.serial_recorded, Theorems.serial_answers}}
use Rattle.argus_model.proofs.Theorems.{serial_each, serial_leaves}
use Rattle.argus_journal.specs.{Entries.entries, Events.history, Opening.{content_in, model_opening}}
use Rattle.argus_journal.proofs.{Legal.lawful, Serial.{access_named, answered_at}}
use Rattle.argus_journal.proofs.laws.committed_work_runs_again.Goals as goal

pub returns : goal.returns
returns c = record {
  answers = λ s j l. serial_answers entries (model_opening s) (history s j) (lawful s j l);
  each = λ s j later e earlier l q.
      answered_at e.what.call e.what.reply e.object (content_before entries (content_in s.objects) e earlier)
      (access_named s j e (serial_recorded (history s j) later e earlier q))
      (serial_each entries (model_opening s) (history s j) later e earlier (lawful s j l) q);
  leaves = λ s j o l. serial_leaves entries (model_opening s) (history s j) o (lawful s j l);
}
