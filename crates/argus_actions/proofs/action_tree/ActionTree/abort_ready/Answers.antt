-- Who may end was begun, and is not folded.
use Rattle.std.proofs.{Common.arith, lemmas.{Bool.Decides.nat_tests, List.with_items_is}}
use Rattle.argus_actions.proofs.{InStep.{above_down, in_step_aborted}, NodesLemmas.length-rows_of}
use Rattle.argus_actions.proofs.Accepted.{live_is_begun}
use Rattle.argus_actions.proofs.action_tree.ActionTree.abort_ready.Goals as goal

pub abort_under-requires-clause-held : goal.abort_under-requires-clause-held
abort_under-requires-clause-held c = grind (arith, nat_tests, live_is_begun)

pub abort_under-requires-clause-begun : goal.abort_under-requires-clause-begun
abort_under-requires-clause-begun c = grind (arith, nat_tests, live_is_begun, length-rows_of)

pub invariant_of-self : goal.invariant_of-self
invariant_of-self c = grind (arith, nat_tests, with_items_is, in_step_aborted, above_down)
