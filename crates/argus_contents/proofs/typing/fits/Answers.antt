-- Answered outright, so that nothing is searched for.
use Rattle.std.proofs.{Common.{arith, rules}, lemmas.Grind.common_steps}
use Rattle.argus_contents.proofs.typing.fits.Goals as goal

pub returns-in-Rec-Rec-clause-exact : goal.returns-in-Rec-Rec-clause-exact
returns-in-Rec-Rec-clause-exact c = search rules

pub returns-in-Rec-Rec-clause-keeps : goal.returns-in-Rec-Rec-clause-keeps
returns-in-Rec-Rec-clause-keeps c = search rules

pub returns-in-Rec-Arr-clause-exact : goal.returns-in-Rec-Arr-clause-exact
returns-in-Rec-Arr-clause-exact c = search rules

pub returns-in-Rec-Arr-clause-keeps : goal.returns-in-Rec-Arr-clause-keeps
returns-in-Rec-Arr-clause-keeps c = search rules

pub returns-in-Rec-Arr-2-clause-exact : goal.returns-in-Rec-Arr-2-clause-exact
returns-in-Rec-Arr-2-clause-exact c = search rules

pub returns-in-Rec-Arr-2-clause-keeps : goal.returns-in-Rec-Arr-2-clause-keeps
returns-in-Rec-Arr-2-clause-keeps c = search rules

pub returns-then-keeps_limits-clause-exact : goal.returns-then-keeps_limits-clause-exact
returns-then-keeps_limits-clause-exact c = grind (arith, common_steps)

pub returns-then-keeps_limits-clause-keeps : goal.returns-then-keeps_limits-clause-keeps
returns-then-keeps_limits-clause-keeps c = grind (arith, common_steps)

pub returns-else-keeps_limits-clause-exact : goal.returns-else-keeps_limits-clause-exact
returns-else-keeps_limits-clause-exact c = grind (arith, common_steps)

pub returns-else-keeps_limits-clause-keeps : goal.returns-else-keeps_limits-clause-keeps
returns-else-keeps_limits-clause-keeps c = search rules

pub returns-in-Arr-Rec-clause-exact : goal.returns-in-Arr-Rec-clause-exact
returns-in-Arr-Rec-clause-exact c = search rules

pub returns-in-Arr-Rec-clause-keeps : goal.returns-in-Arr-Rec-clause-keeps
returns-in-Arr-Rec-clause-keeps c = search rules

pub returns-in-Arr-Rec-2-clause-exact : goal.returns-in-Arr-Rec-2-clause-exact
returns-in-Arr-Rec-2-clause-exact c = search rules

pub returns-in-Arr-Rec-2-clause-keeps : goal.returns-in-Arr-Rec-2-clause-keeps
returns-in-Arr-Rec-2-clause-keeps c = search rules

pub returns-in-Var-Var-clause-exact : goal.returns-in-Var-Var-clause-exact
returns-in-Var-Var-clause-exact c = search rules

pub returns-in-Var-Var-clause-keeps : goal.returns-in-Var-Var-clause-keeps
returns-in-Var-Var-clause-keeps c = search rules

pub returns-in-Var-Rec-clause-exact : goal.returns-in-Var-Rec-clause-exact
returns-in-Var-Rec-clause-exact c = search rules

pub returns-in-Var-Rec-clause-keeps : goal.returns-in-Var-Rec-clause-keeps
returns-in-Var-Rec-clause-keeps c = search rules

pub returns-in-Var-Rec-2-clause-exact : goal.returns-in-Var-Rec-2-clause-exact
returns-in-Var-Rec-2-clause-exact c = search rules

pub returns-in-Var-Rec-2-clause-keeps : goal.returns-in-Var-Rec-2-clause-keeps
returns-in-Var-Rec-2-clause-keeps c = search rules
