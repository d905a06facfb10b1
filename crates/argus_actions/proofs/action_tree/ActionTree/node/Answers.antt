-- The node of an action, and where its links lead; an action that wasn't begun, or is folded, has none.
use Rattle.std.proofs.{Common.{◌-◌, Some, subst, sym, ap, ◌∙◌, arith}, lemmas.Bool.Decides.nat_tests}
use Rattle.argus_actions.specs.{declared.node.Node.Node, Nodes.{row_of_node, rows_of, IsNode}}
use Rattle.argus_actions.proofs.{RowsLemmas.numbered_low, NodesLemmas.{length-rows_of, row_at, no_row_at}}
use Rattle.argus_actions.proofs.{Begun.{live_count_none, newest_below_none, newest_child_none}, Links.newest_end}
use Rattle.argus_actions.proofs.Links.{older_end, newest_child_end, older_child_end}
use Rattle.argus_actions.proofs.action_tree.ActionTree.node.Goals as goal

pub returns-then-at-len-clause-node : goal.returns-then-at-len-clause-node
returns-then-at-len-clause-node c =
    let nodes = c.self.inside.nodes.items in
    let P : Node → Type 0 = IsNode c.self.inside.first (rows_of nodes) c.args.a.0 in
    rw (← c.self.view_is) (
      row_at c.self.inside.first nodes c.args.a.0 (c.args.a.0 - c.self.inside.first) c.index.result.now (omega arith)
          (omega arith) ∙ ap (λ node. Some (row_of_node node)) (sym c.index.ensures),
      subst P (sym c.index.ensures) (c.self.invariant.nodes.each c.args.a.0 (c.args.a.0 - c.self.inside.first)
          c.index.result.now (omega arith) (omega arith)),
    )

pub returns-then-at-len-clause-newest : goal.returns-then-at-len-clause-newest
returns-then-at-len-clause-newest c = grind (arith, nat_tests, newest_end)

pub returns-then-at-len-clause-newest_child : goal.returns-then-at-len-clause-newest_child
returns-then-at-len-clause-newest_child c = grind (arith, nat_tests, newest_child_end)

pub returns-then-at-len-clause-older : goal.returns-then-at-len-clause-older
returns-then-at-len-clause-older c =
    rw (← c.self.view_is) (rw (
      row_at c.self.inside.first c.self.inside.nodes.items c.args.a.0
          (c.args.a.0 - c.self.inside.first) c.index.result.now (omega arith) (omega arith),
      ← c.index.ensures,
    )
    (older_end _ _ c.self.invariant.nodes _ _ _ (omega arith) (omega arith) c.index.ensures))

pub returns-then-at-len-clause-older_child : goal.returns-then-at-len-clause-older_child
returns-then-at-len-clause-older_child c =
    rw (← c.self.view_is) (rw (
      row_at c.self.inside.first c.self.inside.nodes.items c.args.a.0
          (c.args.a.0 - c.self.inside.first) c.index.result.now (omega arith) (omega arith),
      ← c.index.ensures,
    )
    (older_child_end _ _ c.self.invariant.nodes _ _ _ (omega arith) (omega arith) c.index.ensures))

pub returns-else-at-len-clause-node : goal.returns-else-at-len-clause-node
returns-else-at-len-clause-node c = grind (arith, nat_tests, no_row_at, live_count_none, length-rows_of)

pub returns-else-at-len-clause-newest : goal.returns-else-at-len-clause-newest
returns-else-at-len-clause-newest c = grind (arith, nat_tests, newest_below_none, length-rows_of)

pub returns-else-at-len-clause-newest_child : goal.returns-else-at-len-clause-newest_child
returns-else-at-len-clause-newest_child c = grind (arith, nat_tests, newest_child_none, length-rows_of)

pub returns-else-at-len-clause-older : goal.returns-else-at-len-clause-older
returns-else-at-len-clause-older c = grind (arith, nat_tests, no_row_at)

pub returns-else-at-len-clause-older_child : goal.returns-else-at-len-clause-older_child
returns-else-at-len-clause-older_child c = grind (arith, nat_tests, no_row_at)

pub returns-then-a-self-clause-node : goal.returns-then-a-self-clause-node
returns-then-a-self-clause-node c = grind (arith, nat_tests, numbered_low, live_count_none)

pub returns-then-a-self-clause-newest : goal.returns-then-a-self-clause-newest
returns-then-a-self-clause-newest c = grind (arith, nat_tests, newest_below_none)

pub returns-then-a-self-clause-newest_child : goal.returns-then-a-self-clause-newest_child
returns-then-a-self-clause-newest_child c = grind (arith, nat_tests, newest_child_none)

pub returns-then-a-self-clause-older : goal.returns-then-a-self-clause-older
returns-then-a-self-clause-older c = grind (arith, nat_tests, numbered_low)

pub returns-then-a-self-clause-older_child : goal.returns-then-a-self-clause-older_child
returns-then-a-self-clause-older_child c = grind (arith, nat_tests, numbered_low)
