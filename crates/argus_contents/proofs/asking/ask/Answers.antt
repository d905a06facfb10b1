-- Answered outright, so that nothing is searched for.
use Rattle.std.proofs.{Common.{arith, rules}, lemmas.Grind.common_steps}
use Rattle.argus_contents.proofs.asking.ask.Goals as goal

pub ask_array-requires : goal.ask_array-requires
ask_array-requires c = grind (arith, common_steps)

pub returns-in-None : goal.returns-in-None
returns-in-None c = search rules

pub returns-in-Some-Rec : goal.returns-in-Some-Rec
returns-in-Some-Rec c = search rules

pub returns-in-Some-Arr : goal.returns-in-Some-Arr
returns-in-Some-Arr c = search rules

pub returns-in-Some-Var : goal.returns-in-Some-Var
returns-in-Some-Var c = search rules
