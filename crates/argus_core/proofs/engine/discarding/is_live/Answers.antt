-- A status tells whether the action is live.
use Rattle.std.proofs.{Common.{rules, arith}, lemmas.Grind.common_steps}
use Rattle.argus_core.proofs.Sweeps.{live_at_is}
use Rattle.argus_core.proofs.engine.discarding.is_live.Goals as goal

pub returns-in-Some-Folded : goal.returns-in-Some-Folded
returns-in-Some-Folded c = grind (arith, common_steps, live_at_is)

pub returns-in-Some-Committed : goal.returns-in-Some-Committed
returns-in-Some-Committed c = search rules
