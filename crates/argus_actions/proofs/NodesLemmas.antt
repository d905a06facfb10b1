-- Nodes, oldest first, and the rows that they show.
use Rattle.std.proofs.Common.{◌≡◌, ℕ, ◌+◌, ◌-◌, ◌<◌, ◌≤◌, true, cond, eqb, List, [], ◌∷◌, ◌++◌, length, reverse, map}
use Rattle.std.proofs.{Common.{get_or, Some, None, refl, sym, ◌∙◌, ap, arith}, lemmas.Bool.{Decides.nat_tests, eq-eqb}}
use Rattle.std.proofs.lemmas.List.{length-reverse, length-map, get_or-reverse, get_or-map, reverse-append}
use Rattle.argus_actions.specs.declared.{node.Node.Node, origin.Origin.TheVariants.Top, status.Status.TheVariants.Live}
use Rattle.argus_actions.specs.{declared.status.Status.Status, Row.{Row, under_of, is_begun_under, is_live}}
use Rattle.argus_actions.specs.{Row.with_status, Rows.{numbered, mark, live_count}, Nodes.{row_of_node, rows_of}}
use Rattle.argus_actions.{specs.Nodes.AreNodes, proofs.RowsLemmas.{none_some, linked_at, numbered_past, same_numbered}}
use Rattle.argus_actions.proofs.Marks.{length-mark, numbered-mark}

pub length-rows_of : (nodes : List Node) → length (rows_of nodes) ≡ length nodes
length-rows_of nodes = length-map (reverse nodes) row_of_node ∙ length-reverse nodes

-- a row by its place from the newest on
numbered_place : (n : ℕ) (rows : List Row) (k : ℕ) (d : Row) → k < length rows
    → numbered n rows (n + k) ≡ Some (get_or rows (length rows - 1 - k) d)
numbered_place n [] k d below = absurd (omega arith)
numbered_place n (row ∷ older) k d below = grind (arith, nat_tests, numbered_place n older k d)

-- the row of a number, by its node
pub row_at : (n : ℕ) (nodes : List Node) (a k : ℕ) (d : Node) → a ≡ n + k → k < length nodes
    → numbered n (rows_of nodes) a ≡ Some (row_of_node (get_or nodes k d))
row_at n nodes a k d e below =
    let in_reverse : length nodes - 1 - k < length (reverse nodes) = rw (length-reverse nodes) (omega arith) in
    let by_place = numbered_place n (rows_of nodes) k (row_of_node d) in
    let by_or-map = get_or-map row_of_node (reverse nodes) (length nodes - 1 - k) d (row_of_node d) in_reverse in
    grind (arith, by_place, length-rows_of nodes, by_or-map, get_or-reverse nodes (length nodes - 1 - k) d)

pub no_row_at : (n : ℕ) (nodes : List Node) (a : ℕ) → n + length nodes ≤ a → numbered n (rows_of nodes) a ≡ None
no_row_at n nodes a past = numbered_past n (rows_of nodes) a (rw (length-rows_of nodes) past)

pub rows_of-push : (nodes : List Node) (node : Node) → rows_of (nodes ++ node ∷ []) ≡ row_of_node node ∷ rows_of nodes
rows_of-push nodes node = ap (map row_of_node) (reverse-append nodes (node ∷ []))

-- a node to read past the end with
abbrev pub some_node : Node
some_node = record {
  origin = Top;
  newest_sub = 0;
  older_sub = 0;
  newest_child = 0;
  older_child = 0;
  live_children = 0;
  status = Live;
  depth = 0;
}

-- nodes show these rows where each does
rows_are : (n : ℕ) (new : List Node) (rows : List Row) → length new ≡ length rows
    → ((a k : ℕ) → a ≡ n + k → k < length new → Some (row_of_node (get_or new k some_node)) ≡ numbered n rows a)
    → rows_of new ≡ rows
rows_are n new rows long each =
    same_numbered n (rows_of new) rows (length-rows_of new ∙ long)
    (λ a low below.
    let in_new : a < n + length new = rw length-rows_of at below in
    let e : a ≡ n + (a - n) = omega arith in
    let k_new : a - n < length new = omega arith in
    row_at n new a (a - n) some_node e k_new ∙ each a (a - n) e k_new)

-- the rows after one action's status has changed
pub rows_of-marked : (n : ℕ) (nodes new : List Node) (ended : ℕ) (s : Status) → length new ≡ length nodes
    → ((a k : ℕ) (d : Node) → a ≡ n + k → k < length nodes
    → row_of_node (get_or new k d) ≡ cond (eqb a ended) (with_status s (row_of_node (get_or nodes k d)))
    (row_of_node (get_or nodes k d)))
    → rows_of new ≡ mark n (λ a. eqb a ended) s (rows_of nodes)
rows_of-marked n nodes new ended s long each =
    rows_are n new (mark n (λ a. eqb a ended) s (rows_of nodes))
    (long ∙ sym (length-mark n (λ a. eqb a ended) s (rows_of nodes) ∙ length-rows_of nodes))
    (λ a k e below.
    let k_old : k < length nodes = omega arith in
    ap Some (each a k some_node e k_old)
    ∙ sym (numbered-mark n (λ a. eqb a ended) s (rows_of nodes) a (row_of_node (get_or nodes k some_node))
    (row_at n nodes a k some_node e k_old)))

-- lists of nodes that show the same rows
pub rows_of-same : (n : ℕ) (nodes new : List Node) → length new ≡ length nodes
    → ((k : ℕ) (d : Node) → k < length nodes → row_of_node (get_or new k d) ≡ row_of_node (get_or nodes k d))
    → rows_of new ≡ rows_of nodes
rows_of-same n nodes new long each = grind (arith, nat_tests, rows_are n new, length-rows_of nodes, row_at n nodes)

-- the action under which one was begun has a node
pub under_is_there : (n : ℕ) (nodes : List Node) (a i under : ℕ) (d : Node) → AreNodes n nodes → a ≡ n + i
    → i < length nodes → under_of (get_or nodes i d).origin ≡ Some under
    → (n ≤ under) × (under < a)
under_is_there n nodes a i under d kept at in_a is =
    let by_at = linked_at n (rows_of nodes) a (row_of_node (get_or nodes i d)) kept.linked
    (row_at n nodes a i d at in_a) in
    grind (arith, by_at)

-- a live child counts
live_counts : (n : ℕ) (rows : List Row) (a under : ℕ) (row : Row) → numbered n rows a ≡ Some row
    → is_begun_under under row.origin ≡ true → is_live row.status ≡ true → 0 < live_count rows under
live_counts n [] a under row at came live = elim (none_some row at) [ ]
live_counts n (r ∷ older) a under row at came live = grind (arith, nat_tests, live_counts n older a under row)

pub under_has_live : (n : ℕ) (nodes : List Node) (a i under j : ℕ) (d e : Node) → AreNodes n nodes → a ≡ n + i
    → i < length nodes → under ≡ n + j
    → under_of (get_or nodes i d).origin ≡ Some under → is_live (get_or nodes i d).status ≡ true
    → 1 ≤ (get_or nodes j e).live_children
under_has_live n nodes a i under j d e kept at in_a at_under is live =
    let there = under_is_there n nodes a i under d kept at in_a is in
    let came : is_begun_under under (get_or nodes i d).origin ≡ true = rw is (eq-eqb under under refl) in
    let counted : 0 < live_count (rows_of nodes) under =
    live_counts n (rows_of nodes) a under (row_of_node (get_or nodes i d)) (row_at n nodes a i d at in_a) came live in
    let count : (get_or nodes j e).live_children ≡ live_count (rows_of nodes) under =
    (kept.each under j e at_under (omega (arith, there.1))).children in
    omega arith
