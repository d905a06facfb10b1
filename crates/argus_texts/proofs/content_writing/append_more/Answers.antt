-- Answered outright, so that nothing is searched for.
use Rattle.std.proofs.{Common.{arith, rules}, lemmas.Grind.common_steps}
use Rattle.argus_texts.proofs.content_writing.append_more.Goals as goal

pub loop-value-init : goal.loop-value-init
loop-value-init c = search rules

pub offset_bounds-values-value-index : goal.offset_bounds-values-value-index
offset_bounds-values-value-index c = search rules

pub returns-in_err-append-clause-grew : goal.returns-in_err-append-clause-grew
returns-in_err-append-clause-grew c = grind (arith, common_steps)

pub returns-in_err-append-clause-written : goal.returns-in_err-append-clause-written
returns-in_err-append-clause-written c = search rules

pub returns-in_err-append_value-clause-grew : goal.returns-in_err-append_value-clause-grew
returns-in_err-append_value-clause-grew c = grind (arith, common_steps)

pub returns-in_err-append_value-clause-written : goal.returns-in_err-append_value-clause-written
returns-in_err-append_value-clause-written c = search rules

pub loop-value-preserved : goal.loop-value-preserved
loop-value-preserved c = grind (arith, common_steps)

pub returns-clause-grew : goal.returns-clause-grew
returns-clause-grew c = search rules

pub returns-clause-written : goal.returns-clause-written
returns-clause-written c = grind (arith, common_steps)
