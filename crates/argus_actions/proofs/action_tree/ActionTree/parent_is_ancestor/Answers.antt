-- The law, from what is so of all nodes.
use Rattle.std.proofs.{Common.arith, lemmas.Bool.Decides.nat_tests}
use Rattle.argus_actions.proofs.Parents.{parent_above}
use Rattle.argus_actions.proofs.action_tree.ActionTree.parent_is_ancestor.Goals as goal

pub returns : goal.returns
returns c = grind (arith, nat_tests, parent_above)
