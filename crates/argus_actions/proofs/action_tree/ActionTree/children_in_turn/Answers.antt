-- Each link leads to the greatest number below.
use Rattle.std.proofs.{Common.arith, lemmas.Bool.Decides.nat_tests}
use Rattle.argus_actions.{specs.{Row.is_begun_under, Tree.next}, proofs.Newest.{came_row, newest_where_greatest}}
use Rattle.argus_actions.proofs.Siblings.{comes_under}
use Rattle.argus_actions.proofs.action_tree.ActionTree.children_in_turn.Goals as goal

pub returns-clause-newest : goal.returns-clause-newest
returns-clause-newest c =
    newest_where_greatest (is_begun_under c.args.a.0) c.args.self.now.folded c.args.self.now.rows (next c.args.self.now)

pub returns-clause-older : goal.returns-clause-older
returns-clause-older c = grind (arith, nat_tests, came_row, comes_under, newest_where_greatest)
