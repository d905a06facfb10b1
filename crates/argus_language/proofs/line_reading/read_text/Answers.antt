-- Answered outright, so that nothing is searched for.
use Rattle.std.proofs.{Common.{arith, rules}, lemmas.Grind.common_steps}
use Rattle.argus_language.proofs.line_reading.read_text.Goals as goal

pub returns-in_default : goal.returns-in_default
returns-in_default c = search rules

pub returns-then-first-eq35 : goal.returns-then-first-eq35
returns-then-first-eq35 c = search rules

pub read_command-requires-text-verb : goal.read_command-requires-text-verb
read_command-requires-text-verb c = search rules

pub read_command-requires-text-rest : goal.read_command-requires-text-rest
read_command-requires-text-rest c = search rules

pub returns : goal.returns
returns c = grind (arith, common_steps)
