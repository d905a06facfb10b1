-- Journals worked out: the past folded into an opening, and what goes on from there.
use Rattle.std.specs.Prelude.{List, Some, [], ◌∷◌}
use Rattle.argus_contents.specs.declared.query.Query.TheVariants.{Field}
use Rattle.argus_entries.specs.Call.{PlainCall, ask, begin_nested, begin_sub, begin_top, commit}
use Rattle.argus_journal.specs.{Opening.Opening, Worked.{holding, number_shape}}

-- objects 0 and 1 hold 0, one action and six entries went before
abbrev pub checkpointed : Opening
checkpointed = record {
  objects = (number_shape, Some (holding 0)) ∷ (number_shape, Some (holding 0)) ∷ [];
  first_action = 1;
  first_entry = 6;
}

-- calls that name the folded action 0, the live topaction 1, and 2, which hasn't begun
abbrev pub going_on : List PlainCall
going_on = ask 0 0 (Field 0) ∷ begin_top ∷ ask 1 0 (Field 0) ∷ ask 2 0 (Field 0) ∷ commit 1 ∷ []

-- nothing can be begun under a folded action
abbrev pub under_the_folded : List PlainCall
under_the_folded = begin_sub 0 ∷ begin_nested 0 ∷ commit 0 ∷ []
