-- A node is made of what its parent or creator says.
use Rattle.std.proofs.Common.{◌≤◌, ◌-◌, ◌+◌, length, get_or, ap, arith}
use Rattle.argus_contents.specs.declared.limits.TheConstants.{MAX_ACTION_DEPTH}
use Rattle.argus_actions.{specs.Row.under_of, proofs.{NodesLemmas.some_node, Begun.under_between}}
use Rattle.argus_actions.proofs.walk.begun_node.Goals as goal

pub overflow_add-older_sub : goal.overflow_add-older_sub
overflow_add-older_sub c =
    let between = under_between c.args.first (c.args.first + length c.args.nodes.now)
    c.in-Sub.parent c.args.origin c.requires.between (ap under_of c.in-Sub.is) in
    let deep : (get_or c.args.nodes.now (c.in-Sub.parent - c.args.first) some_node).depth ≤ MAX_ACTION_DEPTH
    = (c.requires.nodes.each c.in-Sub.parent (c.in-Sub.parent - c.args.first) some_node (omega (arith, between.0))
    (omega (arith, between.0, between.1))).shallow in
    omega arith

pub returns-in-Sub : goal.returns-in-Sub
returns-in-Sub c =
    let between = under_between _ _ _ _ c.requires.between (ap under_of c.in-Sub.is) in
    let above = c.requires.nodes.each c.in-Sub.parent (c.in-Sub.parent - c.args.first) some_node
    (omega (arith, between.0)) (omega (arith, between.0, between.1)) in
    rw (above.newest, above.newest_child, above.depth, c.in-Sub.is)

pub returns-in-Nested : goal.returns-in-Nested
returns-in-Nested c =
    let between = under_between _ _ _ _ c.requires.between (ap under_of c.in-Nested.is) in
    let above = c.requires.nodes.each c.in-Nested.creator (c.in-Nested.creator - c.args.first) some_node
    (omega (arith, between.0)) (omega (arith, between.0, between.1)) in
    rw (above.newest_child, c.in-Nested.is)
