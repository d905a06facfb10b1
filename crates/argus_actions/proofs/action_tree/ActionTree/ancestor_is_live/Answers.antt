-- The law, from what is so of all rows.
use Rattle.std.proofs.{Common.arith, lemmas.Bool.Decides.nat_tests}
use Rattle.argus_actions.proofs.{InStep.live_above, Accepted.{live_status, status_live}}
use Rattle.argus_actions.proofs.action_tree.ActionTree.ancestor_is_live.Goals as goal

pub returns : goal.returns
returns c = grind (arith, nat_tests, live_status, live_above, status_live)
