-- The number of live children stays within its bounds.
use Rattle.std.proofs.{Common.{◌+◌, ◌-◌, length, ap, arith}, lemmas.Grind.common_steps}
use Rattle.argus_actions.{specs.Row.under_of, proofs.{NodesLemmas.some_node, Begun.{child_fits, under_between}}}
use Rattle.argus_actions.proofs.walk.adopt.Goals as goal

pub overflow_add-above : goal.overflow_add-above
overflow_add-above c =
    let between = under_between c.args.first (c.args.first + length c.args.nodes.now)
    c.in-Sub.parent c.args.origin c.requires.between (ap under_of c.in-Sub.is) in
    omega (
      arith,
      child_fits c.args.first c.args.nodes.now c.in-Sub.parent (c.in-Sub.parent - c.args.first)
          some_node c.requires.nodes (omega (arith, between.0)) (omega (arith, between.0, between.1)),
    )

pub overflow_add-above-in-Nested : goal.overflow_add-above-in-Nested
overflow_add-above-in-Nested c =
    let between = under_between c.args.first (c.args.first + length c.args.nodes.now)
    c.in-Nested.creator c.args.origin c.requires.between (ap under_of c.in-Nested.is) in
    omega (
      arith,
      child_fits c.args.first c.args.nodes.now c.in-Nested.creator (c.in-Nested.creator - c.args.first)
          some_node c.requires.nodes (omega (arith, between.0)) (omega (arith, between.0, between.1)),
    )

pub returns-in-Nested : goal.returns-in-Nested
returns-in-Nested c = grind (arith, common_steps)
