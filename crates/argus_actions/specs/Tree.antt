-- What contracts see of an `ActionTree`, and the definitions that they cite of it.
use Rattle.std.specs.Prelude.{◌≡◌, ℕ, ◌<◌, ◌≤◌, ◌+◌, ◌-◌, Bool, true, ◌==◌, nat_lt, if◌then◌else◌, List, ◌∷◌, length}
use Rattle.std.specs.{Prelude.{Option, Some, None}, Option.{option_map, option_and_then}}
use Rattle.argus_actions.specs.{declared.action_id.ActionId.ActionId, declared.origin.Origin.Origin}
use Rattle.argus_actions.specs.{declared.origin.Origin.TheVariants.{Top, Sub, Nested}, declared.status.Status.Status}
use Rattle.argus_actions.specs.declared.status.Status.TheVariants.{Live, Committed, Aborted, Folded}
use Rattle.argus_actions.specs.Row.{Row, at_parent, under_of}
use Rattle.argus_actions.specs.Rows.{numbered, is_above, depth_at, is_live_under, live_count, is_live_sibling_of}
use Rattle.argus_actions.specs.Rows.{has_ancestor, mark, newest_below, newest_child_below}

-- the rows, newest first; how many actions came before the first of them; and room for how many
-- more there is
pub record Tree : Type 0 where
  pub folded : ℕ
  pub rows : List Row
  pub room : ℕ

-- the number of the next action
abbrev pub next : Tree → ℕ
next tree = tree.folded + length tree.rows

-- the row of the action with this number, if it has one
abbrev pub row_of : Tree → ℕ → Option Row
row_of tree a = numbered tree.folded tree.rows a

-- what became of an action; a folded one is over, and nothing else is known of it
abbrev pub status_of : Tree → ℕ → Option Status
status_of tree a =
    if nat_lt a tree.folded then Some Folded else option_map (λ row. row.status) (row_of tree a)

-- a topaction, nested or not, has no parent
abbrev pub parent_by_origin : Origin → Option ActionId
parent_by_origin Top = None
parent_by_origin (Sub parent) = Some (record { 0 = parent })
parent_by_origin (Nested creator) = None

-- the parent of the action with this number, if any
abbrev pub parent_of : Tree → ℕ → Option ActionId
parent_of tree a = option_and_then (λ row. parent_by_origin row.origin) (row_of tree a)

-- a nested topaction has a creator in place of a parent
abbrev pub creator_by_origin : Origin → Option ActionId
creator_by_origin Top = None
creator_by_origin (Sub parent) = None
creator_by_origin (Nested creator) = Some (record { 0 = creator })

-- the creator of the action with this number, if any
abbrev pub creator_of : Tree → ℕ → Option ActionId
creator_of tree a = option_and_then (λ row. creator_by_origin row.origin) (row_of tree a)

-- an action that was begun is its own ancestor, and those of its parent are its ancestors too
abbrev pub is_ancestor : Tree → ℕ → ℕ → Bool
is_ancestor tree x y = is_above tree.folded tree.rows x y

-- a live subaction of it, or a live nested topaction that it created
abbrev pub has_live_child : Tree → ℕ → Bool
has_live_child tree a = is_live_under tree.rows a

-- how many live subactions and live nested topactions it has
abbrev pub live_children : Tree → ℕ → ℕ
live_children tree a = live_count tree.rows a

-- the number of its ancestors
abbrev pub depth_of : Tree → ℕ → Option ℕ
depth_of tree a = option_map (λ row. depth_at tree.folded tree.rows a) (row_of tree a)

-- a number as an action
abbrev pub named : Option ℕ → Option ActionId
named number = option_map (λ a. let id : ActionId = record { 0 = a } in id) number

-- the subaction that was begun last under this one
abbrev pub newest_sub_of : Tree → ℕ → Option ActionId
newest_sub_of tree a = named (newest_below tree.folded tree.rows a (next tree))

-- the subaction of the same parent that was begun next before this one
abbrev pub older_sub_of : Tree → ℕ → Option ActionId
older_sub_of tree a = option_and_then (λ row. named
    (at_parent None row.origin (λ parent. newest_below tree.folded tree.rows parent a)))
    (row_of tree a)

-- the action that was begun last under this one, as a subaction or as a nested topaction
abbrev pub newest_child_of : Tree → ℕ → Option ActionId
newest_child_of tree a = named (newest_child_below tree.folded tree.rows a (next tree))

-- the action of the same parent or creator that was begun next before this one
abbrev pub older_sibling_of : Tree → ℕ → Option ActionId
older_sibling_of tree a =
    option_and_then (λ row. named (option_and_then
    (λ under. newest_child_below tree.folded tree.rows under a) (under_of row.origin)))
    (row_of tree a)

-- the greatest number below the bound that passes the test, if any does
abbrev pub IsGreatestBelow : ℕ → (ℕ → Bool) → Option ActionId → Type 0
IsGreatestBelow bound test None = (x : ℕ) → test x ≡ true → bound ≤ x
IsGreatestBelow bound test (Some a) =
    (test a.0 ≡ true) × ((a.0 < bound) × ((x : ℕ) → test x ≡ true → x < bound → x ≤ a.0))

-- another live action with the same parent or creator
abbrev pub is_live_sibling : Tree → ℕ → ℕ → Bool
is_live_sibling tree a x = is_live_sibling_of tree.folded tree.rows a x

-- the same actions, whatever the room
pub record SameActions (old new : Tree) : Type 0 where
  pub folded : new.folded ≡ old.folded
  pub rows : new.rows ≡ old.rows

-- one more live action, in the room that was reserved
abbrev pub after_begin : Tree → Origin → Tree
after_begin tree origin = record tree {
  rows = record { origin = origin; status = Live } ∷ tree.rows;
  room = tree.room - 1;
}

-- this row is Committed
abbrev pub after_commit : Tree → ℕ → Tree
after_commit tree a = record tree { rows = mark tree.folded (λ k. k == a) Committed tree.rows }

-- the rows that have it as an ancestor are Aborted, committed ones too (Moss, 1981); nested
-- topactions begun under them go on
abbrev pub after_abort : Tree → ℕ → Tree
after_abort tree a = record tree { rows = mark tree.folded (is_ancestor tree a) Aborted tree.rows }

-- the rows that have a live sibling of it as an ancestor are Aborted, committed ones too; nested
-- topactions begun under them go on
abbrev pub after_abort_others : Tree → ℕ → Tree
after_abort_others tree a = record tree {
  rows = mark tree.folded (has_ancestor (is_live_sibling tree a) tree.folded tree.rows)
      Aborted tree.rows;
}
