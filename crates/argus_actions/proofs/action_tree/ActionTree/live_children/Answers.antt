-- The node has the count; where there is no node, no live action was begun under this one.
use Rattle.std.proofs.{Common.{sym, arith}, lemmas.Bool.Decides.nat_tests}
use Rattle.argus_actions.proofs.RowsLemmas.{row_begun}
use Rattle.argus_actions.proofs.action_tree.ActionTree.live_children.Goals as goal

pub returns-in-Some-clause-value : goal.returns-in-Some-clause-value
returns-in-Some-clause-value c = c.in-Some.ensures.node.1.children

pub returns-in-Some-clause-folded : goal.returns-in-Some-clause-folded
returns-in-Some-clause-folded c = grind (arith, nat_tests, row_begun)

pub returns-in-Some-clause-unbegun : goal.returns-in-Some-clause-unbegun
returns-in-Some-clause-unbegun c = grind (arith, nat_tests, row_begun)

pub returns-in-None-clause-value : goal.returns-in-None-clause-value
returns-in-None-clause-value c = sym c.in-None.ensures.node.1
