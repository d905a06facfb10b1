-- Each link leads to the greatest number below.
use Rattle.std.proofs.{Common.arith, lemmas.Bool.Decides.nat_tests}
use Rattle.argus_actions.{specs.{Row.is_sub_of, Tree.next}, proofs.Newest.{came_row, newest_where_greatest}}
use Rattle.argus_actions.proofs.Walks.{sub_of}
use Rattle.argus_actions.proofs.action_tree.ActionTree.subs_in_turn.Goals as goal

pub returns-clause-newest : goal.returns-clause-newest
returns-clause-newest c =
    newest_where_greatest (is_sub_of c.args.a.0) c.args.self.now.folded c.args.self.now.rows (next c.args.self.now)

pub returns-clause-older : goal.returns-clause-older
returns-clause-older c = grind (arith, nat_tests, came_row, sub_of, newest_where_greatest)
