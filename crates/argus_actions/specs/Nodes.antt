-- What a tree keeps of its actions, oldest first, and what its nodes say besides their rows.
use Rattle.std.specs.Prelude.{◌≡◌, ℕ, ◌+◌, ◌<◌, ◌≤◌, ◌==◌, if◌then◌else◌, List, [], ◌∷◌, length, reverse, map, get_or}
use Rattle.std.specs.{Prelude.{Option, Some, None, IfSome}, Option.option_and_then}
use Rattle.argus_contents.specs.declared.limits.TheConstants.{MAX_ACTIONS, MAX_ACTION_DEPTH}
use Rattle.argus_actions.specs.{declared.node.TheConstants.NONE, declared.action_id.ActionId.ActionId}
use Rattle.argus_actions.specs.{declared.node.Node.Node, declared.origin.Origin.Origin, Tree.{Tree, row_of}}
use Rattle.argus_actions.specs.declared.status.Status.TheVariants.{Live}
use Rattle.argus_actions.specs.Row.{Row, at_parent, under_of, is_sub_of, is_begun_under}
use Rattle.argus_actions.specs.Rows.{AreInStep, depth_at, live_count, newest_below, newest_child_below}

-- the row that a node keeps
abbrev pub row_of_node : Node → Row
row_of_node node = record { origin = node.origin; status = node.status }

-- the rows that the nodes show, newest first
abbrev pub rows_of : List Node → List Row
rows_of nodes = map row_of_node (reverse nodes)

-- the action under which it was begun is one of those from the first to before it
abbrev pub IsBegunBetween : ℕ → ℕ → Origin → Type 0
IsBegunBetween first number origin =
    IfSome (under_of origin) (λ under. (first ≤ under) × (under < number))

-- each action was begun under an older one, if under any
abbrev pub AreLinked : ℕ → List Row → Type 0
AreLinked folded [] = Unit {0}
AreLinked folded (row ∷ older) =
    IsBegunBetween folded (folded + length older) row.origin × AreLinked folded older

-- a link to an action, or to none
abbrev pub link_to : Option ℕ → ℕ
link_to None = NONE
link_to (Some a) = a

-- the action that a link leads to
abbrev pub link_end : ℕ → Option ActionId
link_end link = if link == NONE then None else Some (record { 0 = link })

-- what the node of this number says besides its row
pub record IsNode (folded : ℕ) (rows : List Row) (a : ℕ) (node : Node) : Type 0 where
  pub newest : node.newest_sub ≡ link_to (newest_below folded rows a (folded + length rows))
  pub older : node.older_sub ≡ link_to (at_parent None node.origin
      (λ p. newest_below folded rows p a))
  pub newest_child : node.newest_child ≡ link_to
      (newest_child_below folded rows a (folded + length rows))
  pub older_child : node.older_child ≡ link_to (option_and_then
      (λ under. newest_child_below folded rows under a) (under_of node.origin))
  pub children : node.live_children ≡ live_count rows a
  pub depth : node.depth ≡ depth_at folded rows a
  pub shallow : node.depth ≤ MAX_ACTION_DEPTH

-- what holds of the nodes of every tree
pub record AreNodes (folded : ℕ) (nodes : List Node) : Type 0 where
  pub few : folded + length nodes ≤ MAX_ACTIONS
  pub linked : AreLinked folded (rows_of nodes)
  pub each : (a k : ℕ) (d : Node) → a ≡ folded + k → k < length nodes
      → IsNode folded (rows_of nodes) a (get_or nodes k d)

-- and of the statuses that they show
pub record AreKept (folded : ℕ) (kept : List Node) : Type 0 where
  pub nodes : AreNodes folded kept
  pub in_step : AreInStep folded (rows_of kept)

-- what is found of the action of a number
abbrev pub IsNodeOf : Tree → ℕ → Option Node → Type 0
IsNodeOf tree a None = (row_of tree a ≡ None) × (live_count tree.rows a ≡ 0)
IsNodeOf tree a (Some node) =
    (row_of tree a ≡ Some (row_of_node node)) × IsNode tree.folded tree.rows a node

-- the node of this number, once an action was begun
abbrev pub adopted : Origin → ℕ → ℕ → Node → Node
adopted origin number a node = record node {
  newest_sub = if is_sub_of a origin then number else node.newest_sub;
  newest_child = if is_begun_under a origin then number else node.newest_child;
  live_children = node.live_children + (if is_begun_under a origin then 1 else 0);
}

-- the node of an action that was just begun
abbrev pub fresh : Origin → ℕ → ℕ → ℕ → Node
fresh origin older child depth =
    record {
      origin = origin;
      newest_sub = NONE;
      older_sub = older;
      newest_child = NONE;
      older_child = child;
      live_children = 0;
      status = Live;
      depth = depth;
    }

-- the link from an action that is begun now to the newest one of the same parent
abbrev pub older_sub_link : ℕ → List Row → Origin → ℕ
older_sub_link folded rows origin =
    link_to (at_parent None origin (λ p. newest_below folded rows p (folded + length rows)))

-- the link from an action that is begun now to the newest one of the same parent or creator
abbrev pub older_child_link : ℕ → List Row → Origin → ℕ
older_child_link folded rows origin = link_to (option_and_then
    (λ under. newest_child_below folded rows under (folded + length rows)) (under_of origin))
