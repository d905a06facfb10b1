-- Answered outright, so that nothing is searched for.
use Rattle.std.proofs.{Common.{arith, rules}, lemmas.Grind.common_steps}
use Rattle.argus_language.proofs.reading.Reading.begin.Goals as goal

pub returns-in_err-reserve-clause-fault : goal.returns-in_err-reserve-clause-fault
returns-in_err-reserve-clause-fault c = search rules

pub returns-in_err-reserve-clause-objects : goal.returns-in_err-reserve-clause-objects
returns-in_err-reserve-clause-objects c = search rules

pub returns-in_err-reserve-clause-levels : goal.returns-in_err-reserve-clause-levels
returns-in_err-reserve-clause-levels c = search rules

pub returns-in_err-reserve-clause-lines : goal.returns-in_err-reserve-clause-lines
returns-in_err-reserve-clause-lines c = search rules

pub returns-in_err-reserve-clause-sound : goal.returns-in_err-reserve-clause-sound
returns-in_err-reserve-clause-sound c = search rules

pub push_reserved-requires : goal.push_reserved-requires
push_reserved-requires c = search rules

pub returns-clause-objects : goal.returns-clause-objects
returns-clause-objects c = search rules

pub returns-clause-levels : goal.returns-clause-levels
returns-clause-levels c = grind (arith, common_steps)

pub returns-clause-lines : goal.returns-clause-lines
returns-clause-lines c = grind (arith, common_steps)

pub returns-clause-sound : goal.returns-clause-sound
returns-clause-sound c = grind (arith, common_steps)
