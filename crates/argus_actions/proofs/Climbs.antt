-- The walk up to an ancestor.
use Rattle.std.proofs.Common.{◌≡◌, ℕ, ◌+◌, ◌<◌, ◌≤◌, true, false, eqb, ◌||◌, List, length, get_or, subst, ◌∙◌, ap}
use Rattle.std.proofs.{Common.{arith, ◌⊎◌}, lemmas.Bool.{Decides.nat_tests, eq-eqb}}
use Rattle.argus_actions.specs.declared.{node.Node.Node, origin.Origin.{Origin, TheVariants.{Top, Sub, Nested}}}
use Rattle.argus_actions.specs.{Row.at_parent, Rows.is_above, Nodes.{row_of_node, rows_of, IsBegunBetween, AreLinked}}
use Rattle.argus_actions.proofs.{RowsLemmas.{linked_at, is_above_step}, NodesLemmas.row_at}

-- the action of a node was begun under an older one
pub came_between : (n : ℕ) (nodes : List Node) (a k : ℕ) (d : Node) → AreLinked n (rows_of nodes) → a ≡ n + k
    → k < length nodes → IsBegunBetween n a (get_or nodes k d).origin
came_between n nodes a k d linked e below =
    linked_at n (rows_of nodes) a (row_of_node (get_or nodes k d)) linked (row_at n nodes a k d e below)

module _ (n : ℕ) (nodes : List Node) (x y k : ℕ) (d : Node) (linked : AreLinked n (rows_of nodes)) (e : y ≡ n + k)
    (below : k < length nodes) where
  step : is_above n (rows_of nodes) x y ≡ (eqb x y || at_parent false (get_or nodes k d).origin
      (is_above n (rows_of nodes) x))
  step = is_above_step n (rows_of nodes) x y (row_of_node (get_or nodes k d)) linked (row_at n nodes y k d e below)

  pub climbed_here : x ≡ y → is_above n (rows_of nodes) x y ≡ true
  climbed_here same =
      step ∙ ap (λ b. b || at_parent false (get_or nodes k d).origin (is_above n (rows_of nodes) x)) (eq-eqb x y same)

  pub climbed_up : x < y → (p : ℕ) → (get_or nodes k d).origin ≡ Sub p
      → is_above n (rows_of nodes) x y ≡ is_above n (rows_of nodes) x p
  climbed_up less p is = grind (arith, nat_tests, step)

  pub climbed_out : x < y → ((get_or nodes k d).origin ≡ Top) ⊎ ((c : ℕ) × ((get_or nodes k d).origin ≡ Nested c))
      → is_above n (rows_of nodes) x y ≡ false
  climbed_out less o = grind (arith, nat_tests, step)

  pub parent_before : (p : ℕ) → (get_or nodes k d).origin ≡ Sub p → (n ≤ p) × (p < y)
  parent_before p is =
      let P : Origin → Type 0 = IsBegunBetween n y in subst P is (came_between n nodes y k d linked e below)
