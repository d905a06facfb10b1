-- What one more entry adds to the effects.
use Rattle.std.specs.Prelude.{List, None, Option, Some, [], ℕ}
use Rattle.argus_contents.specs.Content.{PlainContent}
use Rattle.argus_entries.specs.Entry.{PlainEntry}
use Rattle.argus_model.specs.{Effects.added_effects, Event.Event}
use Rattle.argus_journal.specs.{Entries.entries, Events.history, Opening.{Opening, model_opening}}

-- the commit of a topaction adds what it sees in each object that it has written; everything else
-- adds nothing
abbrev pub added_by : Opening → Option (Event PlainEntry) → List PlainEntry
    → List (List (ℕ × Option PlainContent))
added_by s None j = []
added_by s (Some event) j = added_effects entries (model_opening s) (history s j) event
