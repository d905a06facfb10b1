-- The proof that each call of a tree is an event.
use Rattle.std.proofs.{Common.arith, lemmas.Bool.Decides.nat_tests}
use Rattle.argus_journal.proofs.Legal.{lawful}
use Rattle.argus_refinement.proofs.{CellHolders.orderly, TreeSteps.{start_tree, abort_others_tree, abort_tree}}
use Rattle.argus_refinement.proofs.TreeSteps.{begin_tree, commit_tree, same_tree}
use Rattle.argus_refinement.proofs.tree_laws.each_call_is_an_event.Goals as goal

pub returns : goal.returns
returns c = record {
  start = λ t n f r. start_tree t n f r;
  room = λ t u h same is. same_tree t u h same is;
  begin = λ t h o is. begin_tree t h is o;
  commit = λ t h a is. commit_tree t h is a;
  abort = λ t h a is. abort_tree t h is a;
  abort_others = grind (arith, nat_tests, abort_others_tree, orderly, lawful);
}
