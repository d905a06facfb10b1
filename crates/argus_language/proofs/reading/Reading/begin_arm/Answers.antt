-- Answered outright, so that nothing is searched for.
use Rattle.std.proofs.{Common.{arith, rules}, lemmas.Grind.common_steps}
use Rattle.argus_language.proofs.reading.Reading.begin_arm.Goals as goal

pub end_arm-requires : goal.end_arm-requires
end_arm-requires c = search rules

pub returns-in_err-end_arm-clause-fault : goal.returns-in_err-end_arm-clause-fault
returns-in_err-end_arm-clause-fault c = search rules

pub returns-in_err-end_arm-clause-objects : goal.returns-in_err-end_arm-clause-objects
returns-in_err-end_arm-clause-objects c = search rules

pub returns-in_err-end_arm-clause-levels : goal.returns-in_err-end_arm-clause-levels
returns-in_err-end_arm-clause-levels c = search rules

pub returns-in_err-end_arm-clause-lines : goal.returns-in_err-end_arm-clause-lines
returns-in_err-end_arm-clause-lines c = search rules

pub returns-in_err-end_arm-clause-sound : goal.returns-in_err-end_arm-clause-sound
returns-in_err-end_arm-clause-sound c = search rules

pub returns-in_default-clause-objects : goal.returns-in_default-clause-objects
returns-in_default-clause-objects c = search rules

pub returns-in_default-clause-levels : goal.returns-in_default-clause-levels
returns-in_default-clause-levels c = grind (arith, common_steps)

pub returns-in_default-clause-lines : goal.returns-in_default-clause-lines
returns-in_default-clause-lines c = grind (arith, common_steps)

pub returns-in_default-clause-sound : goal.returns-in_default-clause-sound
returns-in_default-clause-sound c = search rules

pub begin-requires-clause-sound : goal.begin-requires-clause-sound
begin-requires-clause-sound c = search rules

pub begin-requires-clause-may : goal.begin-requires-clause-may
begin-requires-clause-may c = search rules

pub begin-requires-clause-place : goal.begin-requires-clause-place
begin-requires-clause-place c = grind (arith, common_steps)

pub begin-requires-clause-arm : goal.begin-requires-clause-arm
begin-requires-clause-arm c = grind (arith, common_steps)

pub returns-clause-fault : goal.returns-clause-fault
returns-clause-fault c = search rules

pub returns-clause-objects : goal.returns-clause-objects
returns-clause-objects c = search rules

pub returns-clause-levels : goal.returns-clause-levels
returns-clause-levels c = grind (arith, common_steps)

pub returns-clause-lines : goal.returns-clause-lines
returns-clause-lines c = search rules

pub returns-clause-sound : goal.returns-clause-sound
returns-clause-sound c = search rules
