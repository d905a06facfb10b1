-- Answered outright, so that nothing is searched for.
use Rattle.std.proofs.{Common.{arith, rules}, lemmas.Grind.common_steps}
use Rattle.argus_contents.proofs.shaping.has_name.Goals as goal

pub loop-other-init : goal.loop-other-init
loop-other-init c = search rules

pub offset_bounds-fields-other-index : goal.offset_bounds-fields-other-index
offset_bounds-fields-other-index c = search rules

pub returns-then-eq : goal.returns-then-eq
returns-then-eq c = grind (arith, common_steps)

pub loop-other-preserved : goal.loop-other-preserved
loop-other-preserved c = grind (arith, common_steps)

pub returns : goal.returns
returns c = grind (arith, common_steps)
