-- The nodes after one action has ended.
use Rattle.std.proofs.Common.{◌≡◌, ℕ, ◌+◌, ◌-◌, ◌<◌, Bool, true, false, cond, eqb, ◌&&◌, ◌⊎◌, List, length, get_or, set}
use Rattle.std.proofs.{Common.{Some, None, sym, ◌∙◌, ap, arith}, lemmas.{Bool.Decides.nat_tests, List.get_or-set_same}}
use Rattle.std.proofs.lemmas.List.{get_or-set_other, get_or_default, length-set}
use Rattle.argus_actions.specs.{declared.{node.Node.Node, status.Status.Status}, Row.{Row, under_of, is_begun_under}}
use Rattle.argus_actions.specs.{Row.{is_live, with_status}, Rows.{numbered, mark, live_count}, Nodes.row_of_node}
use Rattle.argus_actions.{specs.Nodes.{rows_of, AreNodes, IsNode}, proofs.Marks.{each_under, live_count-mark, one}}
use Rattle.argus_actions.proofs.Marks.{at_parent_same, length-mark, AreLinked-mark, depth_at-mark, newest_where-mark}
use Rattle.argus_actions.proofs.NodesLemmas.{some_node, row_at, rows_of-marked}

-- the node of a number, once the action `ended`, whose node was `last`, has ended with a status
abbrev pub finished : Status → ℕ → Node → ℕ → Node → Node
finished s ended last a node = record {
  origin = node.origin;
  newest_sub = node.newest_sub;
  older_sub = node.older_sub;
  newest_child = node.newest_child;
  older_child = node.older_child;
  live_children = node.live_children - one (is_begun_under a last.origin && is_live last.status);
  status = cond (eqb a ended) s node.status;
  depth = node.depth;
}

shown_finished : (b : Bool) (s : Status) (node : Node)
    → (let r : Row = record { origin = node.origin; status = cond b s node.status } in r)
    ≡ cond b (with_status s (row_of_node node)) (row_of_node node)
shown_finished b s node = grind (arith)

module _ (n : ℕ) (nodes new : List Node) (ended i : ℕ) (s : Status) (e : ended ≡ n + i) (begun : i < length nodes)
    (over : is_live s ≡ false) (long : length new ≡ length nodes)
    (each : (a k : ℕ) (d : Node) → a ≡ n + k → k < length nodes
    → get_or new k d ≡ finished s ended (get_or nodes i some_node) a (get_or nodes k d)) where
  pub finished_rows : rows_of new ≡ mark n (λ a. eqb a ended) s (rows_of nodes)
  finished_rows = rows_of-marked n nodes new ended s long
      (λ a k d at below. ap row_of_node (each a k d at below) ∙ shown_finished (eqb a ended) s (get_or nodes k d))

  pub finished_nodes : AreNodes n nodes → AreNodes n new
  finished_nodes kept = record {
    few = rw long kept.few;
    linked = rw finished_rows (AreLinked-mark n (λ a. eqb a ended) s (rows_of nodes) kept.linked);
    each = λ a k d at below.
        let in_old : k < length nodes = omega arith in
        let was : IsNode n (rows_of nodes) a (get_or nodes k d) = kept.each a k d at in_old in
        let last : numbered n (rows_of nodes) ended ≡ Some (row_of_node (get_or nodes i some_node)) =
        row_at n nodes ended i some_node e begun in
        let same_long : length (mark n (λ a. eqb a ended) s (rows_of nodes)) ≡ length (rows_of nodes) =
        length-mark n (λ a. eqb a ended) s (rows_of nodes) in
        let less : live_count (mark n (λ a. eqb a ended) s (rows_of nodes)) a + one
        (is_begun_under a (get_or nodes i some_node).origin && is_live (get_or nodes i some_node).status)
        ≡ live_count (rows_of nodes) a
        = live_count-mark n s (rows_of nodes) a ended (row_of_node (get_or nodes i some_node)) over last in
        rw (each a k d at in_old, finished_rows) (record {
          newest = grind (arith, nat_tests, newest_where-mark);
          older = grind (arith, nat_tests, at_parent_same, newest_where-mark);
          newest_child = grind (arith, nat_tests, newest_where-mark);
          older_child = grind (arith, nat_tests, each_under, newest_where-mark);
          children = grind (arith, nat_tests);
          depth = was.depth ∙ sym (depth_at-mark n (λ a. eqb a ended) s (rows_of nodes) a);
          shallow = was.shallow;
        });
  }

-- a list of nodes, with one of them changed
pub changed_at : (f : Node → Node) (nodes : List Node) (i k : ℕ) (d e : Node) → i < length nodes → k < length nodes
    → get_or (set nodes i (f (get_or nodes i e))) k d ≡ cond (eqb k i) (f (get_or nodes k d)) (get_or nodes k d)
changed_at f nodes i k d e in_i in_k = grind (arith, nat_tests, get_or-set_same, get_or_default, get_or-set_other)

-- one live child less
abbrev pub one_less : Node → Node
one_less node = record node { live_children = node.live_children - 1 }

abbrev pub with_end : Status → Node → Node
with_end s node = record node { status = s }

module _ (n : ℕ) (nodes : List Node) (ended i : ℕ) (s : Status) (f : Node) (at_i : ended ≡ n + i)
    (in_ended : i < length nodes) where
  -- the action was live, and was begun under another
  pub finished_under : (under j : ℕ) (e : Node) → under ≡ n + j → j < length nodes
      → under_of (get_or nodes i some_node).origin ≡ Some under → is_live (get_or nodes i some_node).status ≡ true
      → let less = set nodes j (one_less (get_or nodes j e)) in
      (a k : ℕ) (d : Node) → a ≡ n + k → k < length nodes
      → get_or (set less i (with_end s (get_or less i f))) k d
      ≡ finished s ended (get_or nodes i some_node) a (get_or nodes k d)
  finished_under under j e at_j in_under came live a k d at in_k =
      grind (arith, nat_tests, length-set, changed_at (with_end s), changed_at one_less nodes j k d e)

  -- it was not live, or was begun under no other
  pub finished_alone : (under_of (get_or nodes i some_node).origin ≡ None)
      ⊎ (is_live (get_or nodes i some_node).status ≡ false)
      → (a k : ℕ) (d : Node) → a ≡ n + k → k < length nodes
      → get_or (set nodes i (with_end s (get_or nodes i f))) k d
      ≡ finished s ended (get_or nodes i some_node) a (get_or nodes k d)
  finished_alone last a k d at in_k =
      let here = changed_at (with_end s) nodes i k d f in_ended in_k in grind (arith, nat_tests)
