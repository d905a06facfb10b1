-- Answers that save seconds of search.
use Rattle.std.proofs.{Common.{arith, rules}, lemmas.Grind.common_steps}
use Rattle.argus_contents.proofs.asking.ask_array.Goals as goal

pub returns-in-High : goal.returns-in-High
returns-in-High c = grind (arith, common_steps)

pub overflow_cast-result : goal.overflow_cast-result
overflow_cast-result c = search rules

pub overflow_add-result : goal.overflow_add-result
overflow_add-result c = search rules

pub overflow_sub-result : goal.overflow_sub-result
overflow_sub-result c = search rules

pub overflow_cast-result-in-Size : goal.overflow_cast-result-in-Size
overflow_cast-result-in-Size c = search rules

pub fetch-requires : goal.fetch-requires
fetch-requires c = search rules

pub returns-in-Whole : goal.returns-in-Whole
returns-in-Whole c = search rules

pub returns-in-Low : goal.returns-in-Low
returns-in-Low c = search rules

pub returns-in-Size : goal.returns-in-Size
returns-in-Size c = grind (arith, common_steps)

pub returns-in-Fetch : goal.returns-in-Fetch
returns-in-Fetch c = search rules

pub returns-in-Bottom : goal.returns-in-Bottom
returns-in-Bottom c = grind (arith, common_steps)

pub returns-in-Field : goal.returns-in-Field
returns-in-Field c = search rules
