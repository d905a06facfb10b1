-- Answered outright, so that nothing is searched for.
use Rattle.std.proofs.{Common.{arith, rules}, lemmas.Grind.common_steps}
use Rattle.argus_texts.proofs.writing.append_tag.Goals as goal

pub returns-in_err-append-clause-grew : goal.returns-in_err-append-clause-grew
returns-in_err-append-clause-grew c = search rules

pub returns-in_err-append-clause-written : goal.returns-in_err-append-clause-written
returns-in_err-append-clause-written c = search rules

pub returns-in_err-append_nat-clause-grew : goal.returns-in_err-append_nat-clause-grew
returns-in_err-append_nat-clause-grew c = grind (arith, common_steps)

pub returns-in_err-append_nat-clause-written : goal.returns-in_err-append_nat-clause-written
returns-in_err-append_nat-clause-written c = search rules

pub returns-clause-grew : goal.returns-clause-grew
returns-clause-grew c = grind (arith, common_steps)

pub returns-clause-written : goal.returns-clause-written
returns-clause-written c = grind (arith, common_steps)
