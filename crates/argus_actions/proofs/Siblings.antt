-- The walk over the siblings of an action, the newest first: which rows are Aborted so far, which sibling comes next,
-- and how many live ones are left.
use Rattle.std.proofs.Common.{◌≡◌, ℕ, ◌+◌, ◌-◌, ◌<◌, ◌≤◌, Bool, true, false, cond, eqb, leb, not, ◌||◌, ◌&&◌, List}
use Rattle.std.proofs.Common.{length, get_or, Option, Some, None, IfSome, subst, refl, sym, ◌∙◌, ap, arith}
use Rattle.std.proofs.{lemmas.Bool.{Decides.nat_tests, and_from, eq-eqb, lt-leb}, Math.Bool.{and-false, or-false}}
use Rattle.std.specs.Option.{option_and_then, option_map_or}
use Rattle.argus_actions.specs.declared.{node.Node.Node, origin.Origin.Origin, status.Status.TheVariants.Aborted}
use Rattle.argus_actions.specs.{Row.{Row, under_of, is_begun_under, is_live, with_status}, Rows.{numbered, is_above}}
use Rattle.argus_actions.specs.Rows.{mark, newest_child_below, under_at, is_live_at, is_child_of, is_live_sibling_of}
use Rattle.argus_actions.specs.{Rows.{has_ancestor, live_count}, Nodes.{row_of_node, rows_of, AreNodes, link_to}}
use Rattle.argus_actions.proofs.{RowsLemmas.{some_row, row_begun, linked_at}, Counted.{is_live_child_of, live_count_is}}
use Rattle.argus_actions.proofs.{Counted.{count, count_same, count_none, count_some, count_down, count_but}, Marks.one}
use Rattle.argus_actions.proofs.Marks.{newest_where-mark, is_above-mark, mark-mark, mark-same, mark_none, numbered-mark}
use Rattle.argus_actions.proofs.{NodesLemmas.{some_node, length-rows_of, row_at}, Newest.{came_row, newest_where_at}}
use Rattle.argus_actions.proofs.{Newest.{newest_where_most, newest_where_no}, Ancestry.has_ancestor_same}
use Rattle.argus_actions.proofs.{Ancestry.{has_ancestor_or, has_ancestor_one, has_ancestor_none}, Walks.link_some}
use Rattle.argus_actions.proofs.Walks.{link_none, steps_left, fewer_steps}

-- who was begun under an action
pub comes_under : (o : Origin) (u : ℕ) → is_begun_under u o ≡ true → under_of o ≡ Some u
comes_under o u e = grind (arith, nat_tests)

-- the row of one that was begun under another
pub under_row : (n : ℕ) (rows : List Row) (a u : ℕ) → under_at n rows a ≡ Some u
    → (row : Row) × ((numbered n rows a ≡ Some row) × (under_of row.origin ≡ Some u))
under_row n rows a u e = grind (arith, nat_tests)

-- the live siblings from the bound on
abbrev pub is_swept : ℕ → List Row → ℕ → ℕ → ℕ → Bool
is_swept n rows a bound x = leb bound x && is_live_sibling_of n rows a x

module _ (n : ℕ) (rows : List Row) (a under : ℕ) (came : under_at n rows a ≡ Some under) where
  -- a live sibling is a child of the same action
  pub sibling_row : (k : ℕ) → is_live_sibling_of n rows a k ≡ true
      → (row : Row) × ((numbered n rows k ≡ Some row) × (is_begun_under under row.origin ≡ true))
  sibling_row k e = grind (arith, nat_tests, came_row)

  -- from past the newest action on there is none
  pub swept_first : (bound k : ℕ) → k < bound → is_swept n rows a bound k ≡ false
  swept_first bound k less = ap (λ b. b && is_live_sibling_of n rows a k) (lt-leb bound k less)

  -- between the newest child below the bound and the bound there is no other
  pub swept_more : (bound link k : ℕ) → newest_child_below n rows under bound ≡ Some link
      → is_swept n rows a link k ≡ (is_swept n rows a bound k || (eqb k link && is_live_sibling_of n rows a link))
  swept_more bound link k found = grind (arith, nat_tests, newest_where_at, sibling_row, newest_where_most)

  -- a live sibling is a live child, and another
  sibling_is : (x : ℕ) → is_live_sibling_of n rows a x ≡ (is_live_child_of n rows under x && not (eqb x a))
  sibling_is x = grind (arith, nat_tests)

  -- of the live children of the same action all but one are its live siblings
  pub others_first : is_live_at n rows a ≡ true
      → live_count rows under ≡ 1 + count (is_live_sibling_of n rows a) (n + length rows)
  others_first live =
      let row = under_row n rows a under came in
      let child : is_child_of n rows under a ≡ true =
      ap (λ o. option_map_or (λ (w : Row). is_begun_under under w.origin) o false) row.1.0
      ∙ ap (λ o. option_map_or (λ u. eqb u under) o false) row.1.1 ∙ eq-eqb under under refl in
      live_count_is n rows under
      ∙ count_but (is_live_child_of n rows under) a (n + length rows) (row_begun n rows a row.0 row.1.0).1
      (and_from (is_child_of n rows under a) (is_live_at n rows a) child live)
      ∙ ap (λ k. 1 + k) (count_same (λ x. is_live_child_of n rows under x && not (eqb x a))
      (is_live_sibling_of n rows a) (n + length rows) (λ x low. sym (sibling_is x)))

  -- the newest child below the bound is one of those that are left, where it is a live sibling
  pub others_step : (bound link : ℕ) → newest_child_below n rows under bound ≡ Some link
      → count (is_live_sibling_of n rows a) bound
      ≡ one (is_live_sibling_of n rows a link) + count (is_live_sibling_of n rows a) link
  others_step bound link found =
      count_down (is_live_sibling_of n rows a) bound link
      (newest_where_at (is_begun_under under) n rows bound link found).1.1.0
      (λ x past below. grind (arith, nat_tests, sibling_row, newest_where_most))

  -- where some are left, there is a child below the bound
  pub others_there : (bound : ℕ) → 0 < count (is_live_sibling_of n rows a) bound
      → newest_child_below n rows under bound ≡ None → ⊥
  others_there bound some none = grind (arith, nat_tests, count, count_none, sibling_row, newest_where_no)

  -- where none is left, all are from the bound on
  pub others_past : (bound k : ℕ) → count (is_live_sibling_of n rows a) bound ≡ 0
      → is_live_sibling_of n rows a k ≡ true → bound ≤ k
  others_past bound k none is = grind (arith, nat_tests, count_some (is_live_sibling_of n rows a) bound k)

  pub swept_all : (bound k : ℕ) → count (is_live_sibling_of n rows a) bound ≡ 0
      → is_swept n rows a bound k ≡ is_live_sibling_of n rows a k
  swept_all bound k none = grind (arith, nat_tests, others_past)

-- of the old rows those are Aborted that have a live sibling from the bound on as an ancestor; the next sibling has
-- this link; and so many live ones are below the bound
pub record IsSwept (n : ℕ) (old nodes : List Node) (a under link left : ℕ) : Type 0 where
  pub bound : ℕ
  pub next : link ≡ link_to (newest_child_below n (rows_of old) under bound)
  pub rows : rows_of nodes ≡ mark n (has_ancestor (is_swept n (rows_of old) a bound) n (rows_of old)) Aborted
      (rows_of old)
  pub others : left ≡ count (is_live_sibling_of n (rows_of old) a) bound

module _ (n : ℕ) (old : List Node) (a under : ℕ) (kept : AreNodes n old)
    (came : under_at n (rows_of old) a ≡ Some under) where
  pub under_begun : (n ≤ under) × (under < n + length old)
  under_begun =
      let row = under_row n (rows_of old) a under came in
      let P : Option ℕ → Type 0 = λ o. IfSome o (λ u. (n ≤ u) × (u < a)) in
      let between : (n ≤ under) × (under < a) =
      subst P row.1.1 (linked_at n (rows_of old) a row.0 kept.linked row.1.0) in
      (between.0, omega (arith, between.1, (row_begun n (rows_of old) a row.0 row.1.0).1, length-rows_of old))

  -- the action itself is one of the live ones
  first_others : (j : ℕ) → under ≡ n + j → is_live_at n (rows_of old) a ≡ true → (get_or old j some_node).live_children
      ≡ 1 + count (is_live_sibling_of n (rows_of old) a) (n + length (rows_of old))
  first_others j at live = (kept.each under j some_node at (omega (arith, under_begun.1))).children
      ∙ others_first n (rows_of old) a under came live

  pub has_live : (j : ℕ) → under ≡ n + j → is_live_at n (rows_of old) a ≡ true
      → 1 ≤ (get_or old j some_node).live_children
  has_live j at live = omega (arith, first_others j at live)

  pub sweep_start : (j : ℕ) → under ≡ n + j → is_live_at n (rows_of old) a ≡ true
      → IsSwept n old old a under (get_or old j some_node).newest_child
      ((get_or old j some_node).live_children - 1)
  sweep_start j at live = record {
    bound = n + length (rows_of old);
    next = (kept.each under j some_node at (omega (arith, under_begun.1))).newest_child;
    rows = grind (arith, nat_tests, mark_none, has_ancestor_none, swept_first);
    others = omega (arith, first_others j at live);
  }

  module _ (nodes : List Node) (link left : ℕ) (swept : IsSwept n old nodes a under link left) where
    pub sweep_end : left ≡ 0 → rows_of nodes ≡ mark n (has_ancestor (is_live_sibling_of n (rows_of old) a) n
        (rows_of old)) Aborted (rows_of old)
    sweep_end none =
        swept.rows ∙ mark-same n (has_ancestor (is_swept n (rows_of old) a swept.bound) n (rows_of old))
        (has_ancestor (is_live_sibling_of n (rows_of old) a) n (rows_of old)) Aborted (rows_of old)
        (λ y low high. has_ancestor_same (is_swept n (rows_of old) a swept.bound) (is_live_sibling_of n (rows_of old) a)
        n (rows_of old) y (λ x from to. swept_all n (rows_of old) a under came swept.bound x (sym swept.others ∙ none)))

    module _ (some : 0 < left) where
      found : newest_child_below n (rows_of old) under swept.bound ≡ Some link
      found = grind (arith, nat_tests, link_some, others_there, link_none, newest_where_at, length-rows_of)

      pub sweep_begun : (n ≤ link) × (link < n + length old)
      sweep_begun = grind (arith, nat_tests, newest_where_at, found, length-rows_of)

      -- whether this one is a live sibling is seen in its node
      pub sibling_seen : (i : ℕ) (d : Node) → link ≡ n + i → length nodes ≡ length old
          → is_live_sibling_of n (rows_of old) a link ≡ (is_live (get_or nodes i d).status && not (eqb link a))
      sibling_seen i d at long =
          let is = newest_where_at (is_begun_under under) n (rows_of old) swept.bound link found in
          let row : Row = is.1.1.1.0 in
          let in_rows : numbered n (rows_of old) link ≡ Some is.1.1.1.0 = is.1.1.1.1.0 in
          let spared : has_ancestor (is_swept n (rows_of old) a swept.bound) n (rows_of old) link ≡ false
          = has_ancestor_none (is_swept n (rows_of old) a swept.bound) n (rows_of old) link kept.linked
          (λ x le. swept_first n (rows_of old) a under came swept.bound x (omega (arith, is.1.1.0))) in
          let now : numbered n (rows_of nodes) link ≡ Some is.1.1.1.0
          = ap (λ (rows : List Row). numbered n rows link) swept.rows
          ∙ numbered-mark n (has_ancestor (is_swept n (rows_of old) a swept.bound) n (rows_of old)) Aborted
          (rows_of old) link is.1.1.1.0 in_rows
          ∙ ap (λ b. Some (cond b (with_status Aborted is.1.1.1.0) is.1.1.1.0)) spared in
          let same : row_of_node (get_or nodes i d) ≡ is.1.1.1.0 =
          some_row (row_of_node (get_or nodes i d)) is.1.1.1.0 (sym
          (row_at n nodes link i d at (omega (arith, sweep_begun.1))) ∙ now) in
          grind (arith, nat_tests)

      -- how many are left
      left_is : left ≡ one (is_live_sibling_of n (rows_of old) a link)
          + count (is_live_sibling_of n (rows_of old) a) link
      left_is = swept.others ∙ others_step n (rows_of old) a under came swept.bound link found

      pub left_spared : is_live_sibling_of n (rows_of old) a link ≡ false
          → left ≡ count (is_live_sibling_of n (rows_of old) a) link
      left_spared isnt = grind (arith, nat_tests, count, left_is, one)

      pub left_aborted : is_live_sibling_of n (rows_of old) a link ≡ true
          → left - 1 ≡ count (is_live_sibling_of n (rows_of old) a) link
      left_aborted is = grind (arith, nat_tests, count, left_is, one)

      -- a sibling that is not aborted changes nothing
      pub sweep_spared : is_live_sibling_of n (rows_of old) a link ≡ false
          → rows_of nodes ≡ mark n (has_ancestor (is_swept n (rows_of old) a link) n (rows_of old)) Aborted
          (rows_of old)
      sweep_spared isnt = swept.rows
          ∙ mark-same n (has_ancestor (is_swept n (rows_of old) a swept.bound) n (rows_of old))
          (has_ancestor (is_swept n (rows_of old) a link) n (rows_of old)) Aborted (rows_of old)
          (λ y low high. has_ancestor_same (is_swept n (rows_of old) a swept.bound) (is_swept n (rows_of old) a link) n
          (rows_of old) y
          (λ x from to. sym (swept_more n (rows_of old) a under came swept.bound link x found
          ∙ ap (λ b. is_swept n (rows_of old) a swept.bound x || (eqb x link && b)) isnt
          ∙ ap (λ b. is_swept n (rows_of old) a swept.bound x || b) (and-false (eqb x link))
          ∙ or-false (is_swept n (rows_of old) a swept.bound x))))

      -- one that is
      pub sweep_aborted : (new : List Node) → is_live_sibling_of n (rows_of old) a link ≡ true
          → rows_of new ≡ mark n (is_above n (rows_of nodes) link) Aborted (rows_of nodes)
          → rows_of new ≡ mark n (has_ancestor (is_swept n (rows_of old) a link) n (rows_of old)) Aborted (rows_of old)
      sweep_aborted new is rows_is =
          let before : ℕ → Bool = has_ancestor (is_swept n (rows_of old) a swept.bound) n (rows_of old) in
          rows_is
          ∙ ap (λ (rows : List Row). mark n (is_above n rows link) Aborted rows) swept.rows
          ∙ mark-same n (is_above n (mark n (has_ancestor (is_swept n (rows_of old) a swept.bound) n (rows_of old))
          Aborted (rows_of old)) link) (is_above n (rows_of old) link) Aborted
          (mark n (has_ancestor (is_swept n (rows_of old) a swept.bound) n (rows_of old)) Aborted (rows_of old))
          (λ x low high. grind (arith, nat_tests, is_above-mark))
          ∙ mark-mark n (has_ancestor (is_swept n (rows_of old) a swept.bound) n (rows_of old))
          (is_above n (rows_of old) link) Aborted (rows_of old)
          ∙ mark-same n (λ y. has_ancestor (is_swept n (rows_of old) a swept.bound) n (rows_of old) y
          || is_above n (rows_of old) link y) (has_ancestor (is_swept n (rows_of old) a link) n (rows_of old))
          Aborted (rows_of old)
          (λ y low high. sym (
          has_ancestor_same (is_swept n (rows_of old) a link)
          (λ x. is_swept n (rows_of old) a swept.bound x || eqb x link) n (rows_of old) y
          (λ x from to. swept_more n (rows_of old) a under came swept.bound link x found
          ∙ ap (λ b. is_swept n (rows_of old) a swept.bound x || (eqb x link && b)) is
          ∙ ap (λ b. is_swept n (rows_of old) a swept.bound x || b) (and_true (eqb x link)))
          ∙ has_ancestor_or (is_swept n (rows_of old) a swept.bound) (λ x. eqb x link) n (rows_of old) y
          ∙ ap (λ b. has_ancestor (is_swept n (rows_of old) a swept.bound) n (rows_of old) y || b)
          (has_ancestor_one link n (rows_of old) y)))
        where
          and_true : (b : Bool) → (b && true) ≡ b
          and_true true = refl
          and_true false = refl

      module _ (new : List Node) (i : ℕ) (at : link ≡ n + i) (kept' : AreNodes n new) (long : length new ≡ length old)
          (rows_is : rows_of new ≡ mark n (has_ancestor (is_swept n (rows_of old) a link) n (rows_of old)) Aborted
          (rows_of old)) where
        next_link : (get_or new i some_node).older_child ≡ link_to (newest_child_below n (rows_of old) under link)
        next_link =
            let in_new : i < length new = omega (arith, sweep_begun.1) in
            let same : newest_child_below n (rows_of new) under swept.bound ≡ Some link =
            ap (λ (rows : List Row). newest_child_below n rows under swept.bound) rows_is
            ∙ newest_where-mark (is_begun_under under) n (has_ancestor (is_swept n (rows_of old) a link) n
            (rows_of old)) Aborted (rows_of old) swept.bound ∙ found in
            let is = newest_where_at (is_begun_under under) n (rows_of new) swept.bound link same in
            let here : row_of_node (get_or new i some_node) ≡ is.1.1.1.0 =
            some_row (row_of_node (get_or new i some_node)) is.1.1.1.0
            (sym (row_at n new link i some_node at in_new) ∙ is.1.1.1.1.0) in
            let own : under_of (get_or new i some_node).origin ≡ Some under =
            ap (λ (w : Row). under_of w.origin) here ∙ comes_under is.1.1.1.0.origin under is.1.1.1.1.1 in
            (kept'.each link i some_node at in_new).older_child
            ∙ ap (λ o. link_to (option_and_then (λ u. newest_child_below n (rows_of new) u link) o)) own
            ∙ ap (λ (rows : List Row). link_to (newest_child_below n rows under link)) rows_is
            ∙ ap link_to (newest_where-mark (is_begun_under under) n
            (has_ancestor (is_swept n (rows_of old) a link) n (rows_of old)) Aborted (rows_of old) link)

        pub sweep_step : (left' : ℕ) → left' ≡ count (is_live_sibling_of n (rows_of old) a) link
            → IsSwept n old new a under (get_or new i some_node).older_child left'
        sweep_step left' left'_is = record { bound = link; next = next_link; rows = rows_is; others = left'_is }

        pub sweep_smaller : steps_left (get_or new i some_node).older_child < steps_left link
        sweep_smaller = grind (arith, nat_tests, sweep_begun, next_link, fewer_steps, newest_where_at)
