-- Who was not begun, or is folded, has no ancestor.
use Rattle.std.proofs.{Common.arith, lemmas.Bool.Decides.nat_tests}
use Rattle.argus_actions.proofs.RowsLemmas.{is_above_past, is_above_low}
use Rattle.argus_actions.proofs.action_tree.ActionTree.is_ancestor.Goals as goal

pub returns-then-y-self : goal.returns-then-y-self
returns-then-y-self c = grind (arith, nat_tests, is_above_low)

pub returns-else-y-len : goal.returns-else-y-len
returns-else-y-len c = grind (arith, nat_tests, is_above_past)
