-- Who may end was begun, and is not folded.
use Rattle.std.proofs.{Common.{◌≡◌, List, length, eqb, subst, ap, arith}, lemmas.Bool.Decides.nat_tests}
use Rattle.std.proofs.lemmas.List.{with_items_is}
use Rattle.argus_actions.specs.{declared.{node.Node.Node, status.Status.TheVariants.Committed}, Rows.mark}
use Rattle.argus_actions.{specs.Nodes.rows_of, proofs.{InStep.in_step_committed, NodesLemmas.length-rows_of}}
use Rattle.argus_actions.proofs.Accepted.{none_first, live_is_begun, commit_accepted}
use Rattle.argus_actions.proofs.action_tree.ActionTree.commit_ready.Goals as goal

pub finish-requires-clause-held : goal.finish-requires-clause-held
finish-requires-clause-held c = grind (arith, nat_tests, live_is_begun, none_first)

pub finish-requires-clause-begun : goal.finish-requires-clause-begun
finish-requires-clause-begun c = grind (arith, nat_tests, live_is_begun, none_first, length-rows_of)

pub invariant_of-self : goal.invariant_of-self
invariant_of-self c =
    let fits : length c.finish.new.nodes ≡ c.self.inside.nodes.len =
    omega (arith, ap (λ (xs : List Node). length xs) c.as_mut_slice.ensures.value) in
    let P : List Node → Type 0 =
    λ xs. rows_of c.finish.new.nodes ≡ mark c.self.inside.first (λ k. eqb k c.args.a.0) Committed (rows_of xs) in
    let rows_is : P c.self.inside.nodes.items = subst P c.as_mut_slice.ensures.value c.finish.ensures.rows in
    let accepted = commit_accepted c.args.self.now c.args.a.0 c.requires in
    let here = rw (← c.self.view_is) at accepted in
    rw (with_items_is c.self.inside.nodes c.finish.new.nodes fits) (record {
      nodes = c.finish.ensures.nodes;
      in_step = rw rows_is (in_step_committed c.self.inside.first c.args.a.0 (rows_of c.self.inside.nodes.items)
          here.0 here.1 c.self.invariant.in_step);
    })
