-- The two parts of a queue are its items.
use Rattle.std.proofs.Common.{subst}
use Rattle.argus_contents.specs.Value.{listed, plain_list}
use Rattle.argus_resume.specs.WellFormed.{AreWellFormedValues}
use Rattle.argus_resume.proofs.WellFormedValues.{parts_formed}
use Rattle.argus_resume.proofs.well_formed_values.items_are_well_formed.Goals as goal

pub returns : goal.returns
returns c = subst (λ vs. AreWellFormedValues (listed (plain_list vs))) c.as_slices.ensures.items
    (parts_formed _ _ c.values_are_well_formed.ensures c.values_are_well_formed-2.ensures)
