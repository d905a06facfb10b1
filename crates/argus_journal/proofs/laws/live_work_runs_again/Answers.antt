-- The proof of the laws that stand on `live_work_runs_again`.
use Rattle.std.proofs.Common.{◌+◌}
use Rattle.argus_model.{specs.Work.content_before, proofs.{Recorded.serial_to_recorded, Theorems.live_answers}}
use Rattle.argus_model.proofs.Theorems.{live_begins, live_each, live_leaves}
use Rattle.argus_journal.specs.{Entries.entries, Events.history, Opening.{content_in, model_opening}}
use Rattle.argus_journal.proofs.{Legal.lawful, Serial.{access_named, answered_at}}
use Rattle.argus_journal.proofs.laws.live_work_runs_again.Goals as goal

pub returns : goal.returns
returns c = record {
  begins = λ s j a l. live_begins entries (model_opening s) (history s j) (a + 1) (lawful s j l);
  answers = λ s j a l. live_answers entries (model_opening s) (history s j) (a + 1) (lawful s j l);
  each = λ s j a later e earlier l live q.
      answered_at e.what.call e.what.reply e.object (content_before entries (content_in s.objects) e earlier)
      (access_named s j e (serial_to_recorded (history s j) (a + 1) later e earlier q))
      (live_each entries (model_opening s) (history s j) (a + 1) later e earlier (lawful s j l) live q);
  leaves = λ s j a o l. live_leaves entries (model_opening s) (history s j) (a + 1) o (lawful s j l);
}
