-- The count of ancestors is the node's; an action is one of its own.
use Rattle.std.proofs.{Common.{arith, ◌≤◌, ℕ, IfSome, rules}, lemmas.Bool.Decides.nat_tests}
use Rattle.argus_actions.{specs.Tree.{Tree, depth_of}, proofs.RowsLemmas.depth_at_least}
use Rattle.argus_actions.proofs.action_tree.ActionTree.depth.Goals as goal

pub returns-clause-value : goal.returns-clause-value
returns-clause-value c = search rules

least : (tree : Tree) (a : ℕ) → IfSome (depth_of tree a) (λ depth. 1 ≤ depth)
least tree a = grind (arith, nat_tests, depth_at_least)

pub returns-clause-least : goal.returns-clause-least
returns-clause-least c = grind (arith, nat_tests, returns-clause-value c, least c.args.self.now c.args.a.0)
