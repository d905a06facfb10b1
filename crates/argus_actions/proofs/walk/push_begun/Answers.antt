-- The nodes with one action more show its row, and keep what is so of them.
use Rattle.std.proofs.{Common.arith, lemmas.{Bool.Decides.nat_tests, List.with_items_is}}
use Rattle.argus_actions.proofs.Begun.{begun_rows, begun_nodes}
use Rattle.argus_actions.proofs.walk.push_begun.Goals as goal

pub returns : goal.returns
returns c = grind (arith, nat_tests, with_items_is, begun_nodes, begun_rows)
