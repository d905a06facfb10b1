-- How far down the calls go, and what is left to decide.
use Rattle.std.proofs.Common.{ℕ, ◌+◌, ◌*◌, length}
use Rattle.std.specs.Str.{IsUtf8}
use Rattle.argus_contents.specs.Value.{plain_list}
use Rattle.argus_texts.specs.{Language.Stops, Languages.Items}
use Rattle.argus_texts.proofs.Items.{Going}
use Rattle.argus_texts.proofs.reading.+reading.Given as goal

abbrev pub decreases-one_value : goal.decreases-one_value
decreases-one_value l = 5 * l.levels + 3

abbrev pub decreases-compound : goal.decreases-compound
decreases-compound l = 5 * l.levels + 2

abbrev pub decreases-choice : goal.decreases-choice
decreases-choice l = 5 * l.levels + 4

abbrev pub decreases-inside : goal.decreases-inside
decreases-inside l = 5 * l.levels + 6

abbrev pub decreases-items : goal.decreases-items
decreases-items l = 5 * l.levels + 5

-- what is left decides where reading stops, and what is read
abbrev pub invariant-items-loop-items : goal.invariant-items-loop-items
invariant-items-loop-items l = record {
  stops : (left : ℕ) → Stops (Items l.close l.levels) l.rest left → Stops (Items l.close l.levels) l.fn.text left;
  reads : Going l.close l.levels l.fn.text l.rest (plain_list l.items.items);
  utf8 : IsUtf8 l.rest;
}

abbrev pub decreases-items-loop-items : goal.decreases-items-loop-items
decreases-items-loop-items l = length l.rest
