-- What a tree with the rows of a history returns is what the history says.
use Rattle.std.proofs.Common.{None, Option, Some, arith, false, length, sym, true, ℕ, ◌+◌, ◌<◌, ◌≤◌, ◌∙◌, ◌≡◌}
use Rattle.std.{proofs.lemmas.{Bool.Decides.nat_tests, List.length-map}, specs.{Option.option_map, Prelude.{◌&&◌, ◌-◌}}}
use Rattle.argus_actions.{proofs.RowsLemmas.{numbered_low, numbered_past}, specs.Tree.{Tree, creator_by_origin}}
use Rattle.argus_actions.specs.Tree.{creator_of, depth_of, has_live_child, is_ancestor, next, parent_by_origin}
use Rattle.argus_actions.specs.{Tree.{parent_of, row_of, status_of}, declared.action_id.ActionId.ActionId}
use Rattle.argus_refinement.proofs.TreeRows.{above_said, depth_said, live_row_said, live_said, row_at_said}
use Rattle.argus_refinement.specs.TreeRefinement.{IsTree, history_origin, history_row, history_status}
use Rattle.argus_model.proofs.{Depth.depth_is, Live.{is_begun_from, is_begun_parts}, Standing.Orderly}
use Rattle.argus_model.proofs.Rows.{creator_of_origin, has_live_row_is, is_above_exactly, live_status_is}
use Rattle.argus_model.{proofs.Rows.{parent_of_origin, row_is, rows_length}, specs.History.{History, folded}}
use Rattle.argus_model.specs.{History.next_action, Status.{is_begun, is_live, status}}
use Rattle.argus_actions.specs.Row as tree_row
use Rattle.argus_actions.specs.Rows as tree_rows
use Rattle.argus_actions.specs.declared.origin.Origin as tree_origin
use Rattle.argus_model.specs.Ancestors as model
use Rattle.argus_model.specs.Event as event
use Rattle.argus_model.specs.Rows as model_rows
use Rattle.argus_model.specs.Status as model_status

-- the row that says this
said_row : (q : Option tree_row.Row) (r : model_rows.Row) → option_map history_row q ≡ Some r
    → (row : tree_row.Row) × ((q ≡ Some row) × (history_row row ≡ r))
said_row q r e = grind (arith)

module _ {V : Type 0} (t : Tree) (h : History V) (is : IsTree t h) (w : Orderly h) where
  -- the number of the next action
  pub next_is : next t + 1 ≡ next_action h
  next_is = grind (arith, nat_tests, length-map, rows_length)

  -- ancestors, of actions that have begun
  pub ancestor_is : (x y : ℕ) → is_ancestor t x y ≡ ((is_begun h (x + 1) && is_begun h (y + 1))
      && model.is_ancestor h (x + 1) (y + 1))
  ancestor_is x y = grind (arith, nat_tests, above_said, is_above_exactly)

  pub ancestor_begun_is : (x y : ℕ) → is_begun h (x + 1) ≡ true → is_begun h (y + 1) ≡ true
      → is_ancestor t x y ≡ model.is_ancestor h (x + 1) (y + 1)
  ancestor_begun_is x y bx by' = grind (arith, nat_tests, ancestor_is)

  -- the row of an action
  row_said_is : (a : ℕ) → option_map history_row (row_of t a) ≡ model_rows.row_at (folded h) (model_rows.rows h) (a + 1)
  row_said_is a = grind (arith, nat_tests, row_at_said)

  pub begun_row : (a : ℕ) → is_begun h (a + 1) ≡ true → (row : tree_row.Row)
      × ((row_of t a ≡ Some row) × (history_row row ≡ model_rows.row_of h (a + 1)))
  begun_row a b = said_row (row_of t a) (model_rows.row_of h (a + 1)) (row_said_is a ∙ row_is h w (a + 1) b)

  -- whether the number has a row: it is folded, it has begun since, or it hasn't begun
  pub begun_from_tree : (a : ℕ) → t.folded ≤ a → a < next t → is_begun h (a + 1) ≡ true
  begun_from_tree a low high = grind (arith, nat_tests, next_is, is_begun_from)

  pub no_row : (a : ℕ) → is_begun h (a + 1) ≡ false → row_of t a ≡ None
  no_row a b = grind (arith, nat_tests, numbered_low, begun_from_tree, numbered_past)

  -- what has become of an action
  pub status_is : (a : ℕ) → is_begun h (a + 1) ≡ true → option_map history_status (status_of t a) ≡ Some (status h
      (a + 1))
  status_is a b = grind (arith, nat_tests, begun_row, is_begun_parts)

  -- whether it is live, by its row
  pub live_is : (a : ℕ) → is_live h (a + 1) ≡ tree_rows.is_live_at t.folded t.rows a
  live_is a = grind (arith, nat_tests, begun_row, live_said, live_status_is, no_row)

  -- whether it has a live child
  pub child_is : (a : ℕ) → has_live_child t a ≡ model_status.has_live_child h (a + 1)
  child_is a = sym (live_row_said t.rows a) ∙ rw is.rows (has_live_row_is h w (a + 1))

  -- how deep it stands
  pub depth_in_rows : (a : ℕ) → is_begun h (a + 1) ≡ true
      → tree_rows.depth_at t.folded t.rows a ≡ length (model.lineage h (a + 1)) - 1
  depth_in_rows a b = grind (arith, nat_tests, depth_said, depth_is)

  pub depth_of_is : (a : ℕ) → is_begun h (a + 1) ≡ true → depth_of t a ≡ Some (length (model.lineage h (a + 1)) - 1)
  depth_of_is a b = grind (arith, nat_tests, begun_row, depth_in_rows)

  parent_said : (o : tree_origin.Origin) (p : ActionId) → parent_by_origin o ≡ Some p
      → event.origin_parent (history_origin o) ≡ p.0 + 1
  parent_said o p e = grind (arith, nat_tests)

  creator_said : (o : tree_origin.Origin) (p : ActionId) → creator_by_origin o ≡ Some p
      → event.origin_begun_by (history_origin o) ≡ p.0 + 1
  creator_said o p e = grind (arith, nat_tests)

  -- its parent
  pub parent_is : (a : ℕ) (p : ActionId) → is_begun h (a + 1) ≡ true → parent_of t a ≡ Some p
      → model.parent h (a + 1) ≡ p.0 + 1
  parent_is a p b e = grind (arith, nat_tests, begun_row, parent_of_origin, parent_said)

  pub no_parent_is : (a : ℕ) → is_begun h (a + 1) ≡ true → parent_of t a ≡ None → model.parent h (a + 1) ≡ 0
  no_parent_is a b e = grind (arith, begun_row a b, parent_of_origin h (a + 1))

  -- its creator
  pub creator_is : (a : ℕ) (c : ActionId) → is_begun h (a + 1) ≡ true → creator_of t a ≡ Some c
      → model.begun_by h (a + 1) ≡ c.0 + 1
  creator_is a c b e = grind (arith, nat_tests, begun_row, creator_of_origin, creator_said)

  -- the action that it was begun under, if any
  under_said : (o : tree_origin.Origin) (u : ℕ) → tree_row.under_of o ≡ Some u
      → event.origin_begun_by (history_origin o) ≡ u + 1
  under_said o u e = grind (arith, nat_tests)

  pub under_is : (a u : ℕ) → is_begun h (a + 1) ≡ true → tree_rows.under_at t.folded t.rows a ≡ Some u
      → model.begun_by h (a + 1) ≡ u + 1
  under_is a u b e = grind (arith, nat_tests, begun_row, creator_of_origin, under_said)

  pub under_none_is : (a : ℕ) → is_begun h (a + 1) ≡ true → tree_rows.under_at t.folded t.rows a ≡ None
      → model.begun_by h (a + 1) ≡ 0
  under_none_is a b e = grind (arith, begun_row a b, creator_of_origin h (a + 1))
