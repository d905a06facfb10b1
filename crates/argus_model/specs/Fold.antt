-- A checkpoint: the past of a history, folded into an opening.
use Rattle.std.specs.Prelude.{ℕ, ◌-◌}
use Rattle.argus_model.specs.{Contents.base, History.{History, HistoryOpening, next_action}, Meaning.Meaning}

module _ {V C A : Type 0} (meaning : Meaning V C A) where
  -- the opening that goes on where the history ends, when this many entries were journalled: the
  -- bases, and the next numbers
  abbrev pub fold : HistoryOpening C → History V → ℕ → HistoryOpening C
  fold opening h entries =
      record {
        contents = base meaning opening h;
        first_action = next_action h - 1;
        first_entry = entries;
      }
