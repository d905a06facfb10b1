-- All below a live sibling are Aborted.
use Rattle.std.proofs.{Common.arith, lemmas.{Bool.Decides.nat_tests, List.with_items_is}}
use Rattle.argus_actions.proofs.{Accepted.{accepted_live, none_first}, InStep.{ancestor_down, in_step_aborted}}
use Rattle.argus_actions.proofs.action_tree.ActionTree.abort_others_ready.Goals as goal

pub abort_siblings-requires-clause-live : goal.abort_siblings-requires-clause-live
abort_siblings-requires-clause-live c = grind (arith, nat_tests, accepted_live, none_first)

pub invariant_of-self : goal.invariant_of-self
invariant_of-self c = grind (arith, nat_tests, with_items_is, in_step_aborted, ancestor_down)
