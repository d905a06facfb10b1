-- Where the links of a node lead.
use Rattle.std.proofs.Common.{◌≡◌, ℕ, ◌+◌, ◌<◌, Bool, List, length, get_or, Option, Some, None, subst, sym, ◌∙◌, ap}
use Rattle.std.{proofs.{Common.arith, lemmas.Bool.Decides.nat_tests}, specs.Option.option_and_then}
use Rattle.argus_actions.specs.{declared.{node.{TheConstants.NONE, Node.Node}, origin.Origin.Origin}, Tree.named}
use Rattle.argus_actions.specs.{Row.{at_parent, under_of, is_sub_of, is_begun_under}, Rows.{newest_where, newest_below}}
use Rattle.argus_actions.specs.{Rows.newest_child_below, Nodes.{rows_of, AreNodes, IsNode, link_to, link_end}}
use Rattle.argus_actions.proofs.{NodesLemmas.length-rows_of, Newest.newest_where_at}

-- a link leads to the action that it was made for
link_end-link_to : (o : Option ℕ) → ((a : ℕ) → o ≡ Some a → a < NONE) → link_end (link_to o) ≡ named o
link_end-link_to o small = grind (arith, nat_tests)

module _ (n : ℕ) (nodes : List Node) (kept : AreNodes n nodes) where
  -- the actions that pass a test have small numbers, and a link leads to them
  where_end : (test : Origin → Bool) (bound : ℕ) → link_end (link_to (newest_where test n (rows_of nodes) bound))
      ≡ named (newest_where test n (rows_of nodes) bound)
  where_end test bound = link_end-link_to (newest_where test n (rows_of nodes) bound)
      (λ c e. omega (arith, (newest_where_at test n (rows_of nodes) bound c e).1.0, length-rows_of nodes, kept.few))

  parent_end : (o : Origin) (bound : ℕ) → link_end (link_to
      (at_parent None o (λ p. newest_below n (rows_of nodes) p bound)))
      ≡ named (at_parent None o (λ p. newest_below n (rows_of nodes) p bound))
  parent_end o bound = grind (arith, nat_tests, where_end)

  under_end : (o : Option ℕ) (bound : ℕ)
      → link_end (link_to (option_and_then (λ u. newest_child_below n (rows_of nodes) u bound) o))
      ≡ named (option_and_then (λ u. newest_child_below n (rows_of nodes) u bound) o)
  under_end o bound = grind (arith, nat_tests, where_end)

  module _ (a k : ℕ) (node : Node) (at : a ≡ n + k) (begun : k < length nodes) (is : node ≡ get_or nodes k node) where
    known : IsNode n (rows_of nodes) a node
    known = let P : Node → Type 0 = IsNode n (rows_of nodes) a in subst P (sym is) (kept.each a k node at begun)

    pub newest_end : link_end node.newest_sub ≡ named (newest_below n (rows_of nodes) a (n + length (rows_of nodes)))
    newest_end = ap link_end known.newest ∙ where_end (is_sub_of a) (n + length (rows_of nodes))

    pub older_end : link_end node.older_sub ≡ named (at_parent None node.origin
        (λ p. newest_below n (rows_of nodes) p a))
    older_end = ap link_end known.older ∙ parent_end node.origin a

    pub newest_child_end : link_end node.newest_child ≡ named
        (newest_child_below n (rows_of nodes) a (n + length (rows_of nodes)))
    newest_child_end = ap link_end known.newest_child ∙ where_end (is_begun_under a) (n + length (rows_of nodes))

    pub older_child_end : link_end node.older_child ≡ named
        (option_and_then (λ u. newest_child_below n (rows_of nodes) u a) (under_of node.origin))
    older_child_end = ap link_end known.older_child ∙ under_end (under_of node.origin) a
