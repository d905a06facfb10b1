-- What ending one action does to the nodes.
use Rattle.std.proofs.Common.{◌≡◌, ◌<◌, ◌+◌, ◌-◌, ℕ, Option, Some, None, length, get_or, set, sym, ◌∙◌, arith, inl, inr}
use Rattle.std.proofs.lemmas.{Bool.Decides.nat_tests, List.length-set}
use Rattle.argus_actions.{specs.declared.node.Node.Node, proofs.NodesLemmas.{some_node, under_is_there, under_has_live}}
use Rattle.argus_actions.proofs.Finished.{with_end, finished, finished_under, finished_alone, finished_rows}
use Rattle.argus_actions.proofs.{Finished.finished_nodes, walk.finish.Goals.then-is_live+in-Some}
use Rattle.argus_actions.proofs.walk.finish.Goals.{then-is_live+in_default, else-is_live}
use Rattle.argus_actions.proofs.walk.finish.Goals as goal

pub overflow_sub-above : goal.overflow_sub-above
overflow_sub-above c =
    (under_is_there c.args.first c.args.nodes.now c.args.a (c.args.a - c.args.first)
    c.in-Some.under some_node c.requires.nodes (omega arith) (omega arith) (sym c.in-Some.ensures)).0

pub overflow_sub-nodes : goal.overflow_sub-nodes
overflow_sub-nodes c =
    let there = under_is_there c.args.first c.args.nodes.now c.args.a (c.args.a - c.args.first)
    c.in-Some.under some_node c.requires.nodes (omega arith) (omega arith) (sym c.in-Some.ensures) in
    under_has_live c.args.first c.args.nodes.now c.args.a (c.args.a - c.args.first) c.in-Some.under
    (c.in-Some.under - c.args.first) some_node some_node c.requires.nodes (omega arith) (omega arith)
    (omega (arith, there.0)) (sym c.in-Some.ensures) (sym c.if-is_live.ensures)

pub bounds-nodes-above : goal.bounds-nodes-above
bounds-nodes-above c =
    let there = under_is_there _ _ c.args.a (c.args.a - c.args.first) _ some_node c.requires.nodes (omega arith)
    (omega arith) (sym c.in-Some.ensures) in omega (arith, there.0, there.1)

pub bounds-nodes-above-in-Some : goal.bounds-nodes-above-in-Some
bounds-nodes-above-in-Some c =
    let there = under_is_there _ _ c.args.a (c.args.a - c.args.first) _ some_node c.requires.nodes (omega arith)
    (omega arith) (sym c.in-Some.ensures) in omega (arith, there.0, there.1)

none_of : (o : Option ℕ) → ((p : ℕ) → o ≡ Some p → ⊥) → o ≡ None
none_of o other = grind (arith, nat_tests)

pub returns : goal.returns
returns c =
    let i : ℕ = c.args.a - c.args.first in
    let at_i : c.args.a ≡ c.args.first + (c.args.a - c.args.first) = omega arith in
    let in_a : c.args.a - c.args.first < length c.args.nodes.now = omega arith in
    let each : (a k : ℕ) (d : Node) → a ≡ c.args.first + k → k < length c.args.nodes.now
    → get_or (set c.if-is_live.nodes (c.args.a - c.args.first)
    (with_end c.args.status (get_or c.if-is_live.nodes (c.args.a - c.args.first) some_node))) k d
    ≡ finished c.args.status c.args.a (get_or c.args.nodes.now (c.args.a - c.args.first) some_node) a
    (get_or c.args.nodes.now k d)
    = elim c.if-is_live.branch [
      | then-is_live+in-Some w ↦
          let there = under_is_there c.args.first c.args.nodes.now c.args.a (c.args.a - c.args.first)
          w.in-Some.under some_node c.requires.nodes at_i in_a (sym w.in-Some.ensures) in
          rw w.nodes-is
          (finished_under c.args.first c.args.nodes.now c.args.a (c.args.a - c.args.first)
          c.args.status some_node at_i in_a w.in-Some.under (w.in-Some.under - c.args.first) some_node
          (omega (arith, there.0)) (omega (arith, there.0, there.1))
          (sym w.in-Some.ensures) (sym w.if-is_live.ensures))
      | then-is_live+in_default w ↦ rw w.nodes-is
          (finished_alone c.args.first c.args.nodes.now c.args.a (c.args.a - c.args.first)
          c.args.status some_node at_i in_a (inl (sym w.under.ensures
          ∙ none_of w.under.result w.in_default.not-Some)))
      | else-is_live w ↦ rw w.nodes-is
          (finished_alone c.args.first c.args.nodes.now c.args.a (c.args.a - c.args.first)
          c.args.status some_node at_i in_a (inr (sym w.if-is_live.ensures)))
    ] in
    let long : length (set c.if-is_live.nodes (c.args.a - c.args.first)
    (with_end c.args.status (get_or c.if-is_live.nodes (c.args.a - c.args.first) some_node)))
    ≡ length c.args.nodes.now
    = length-set c.if-is_live.nodes (c.args.a - c.args.first)
    (with_end c.args.status (get_or c.if-is_live.nodes (c.args.a - c.args.first) some_node)) ∙ omega arith in
    record {
      nodes = finished_nodes c.args.first c.args.nodes.now _ c.args.a (c.args.a - c.args.first)
          c.args.status at_i in_a c.requires.over long each c.requires.nodes;
      rows = finished_rows c.args.first c.args.nodes.now _ c.args.a (c.args.a - c.args.first)
          c.args.status at_i in_a c.requires.over long each;
    }
