-- The values so far are well formed.
use Rattle.std.proofs.Common.{take}
use Rattle.argus_contents.specs.Value.{listed, plain_list}
use Rattle.argus_resume.specs.WellFormed.{AreWellFormedValues}
use Rattle.argus_resume.proofs.well_formed_values.+well_formed.Given as goal

abbrev pub invariant-values_are_well_formed-loop-value : goal.invariant-values_are_well_formed-loop-value
invariant-values_are_well_formed-loop-value l = AreWellFormedValues (listed (plain_list (take l.value-index l.values)))
