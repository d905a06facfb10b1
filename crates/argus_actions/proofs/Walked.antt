-- The nodes in the middle of an abort: which rows are Aborted so far, and which subaction comes next.
use Rattle.std.proofs.Common.{◌≡◌, ◌≢◌, ℕ, ◌+◌, ◌<◌, ◌≤◌, eqb, List, length, get_or, Some, None, sym, ◌∙◌, ap, arith}
use Rattle.std.proofs.lemmas.Bool.Decides.{nat_tests}
use Rattle.argus_actions.specs.declared.{node.{TheConstants.NONE, Node.Node}, origin.Origin.Origin}
use Rattle.argus_actions.specs.{declared.status.Status.TheVariants.Aborted, Row.{Row, at_parent, is_sub_of}}
use Rattle.argus_actions.specs.{Rows.{is_above, mark, newest_below}, Nodes.{row_of_node, rows_of, AreNodes, link_to}}
use Rattle.argus_actions.proofs.{Marks.{newest_where-mark, is_above-mark, mark-mark, mark-same}, NodesLemmas.some_node}
use Rattle.argus_actions.proofs.{NodesLemmas.{length-rows_of, row_at}, Walks.{is_via, is_handled, IsNewestSub}}
use Rattle.argus_actions.proofs.Walks.{newest_sub_is, via_past, via_more, via_all, above_via, link_some, link_none}
use Rattle.argus_actions.proofs.Walks.{steps_left, fewer_steps}

-- of the old rows those are Aborted that are handled by the subactions from the bound on; the next has this link
pub record IsWalked (n : ℕ) (old nodes : List Node) (a link : ℕ) : Type 0 where
  pub bound : ℕ
  pub next : link ≡ link_to (newest_below n (rows_of old) a bound)
  pub rows : rows_of nodes ≡ mark n (is_handled n (rows_of old) a bound) Aborted (rows_of old)

module _ (n : ℕ) (old : List Node) (a : ℕ) (kept : AreNodes n old) where
  pub walk_start : (nodes : List Node) (i : ℕ) → a ≡ n + i → i < length old → AreNodes n nodes
      → length nodes ≡ length old
      → rows_of nodes ≡ mark n (λ k. eqb k a) Aborted (rows_of old)
      → IsWalked n old nodes a (get_or nodes i some_node).newest_sub
  walk_start nodes i at begun kept' long rows_is =
      let last : length (rows_of nodes) ≡ length (rows_of old) =
      length-rows_of nodes ∙ long ∙ sym (length-rows_of old) in
      record {
        bound = n + length (rows_of old);
        next = (kept'.each a i some_node at (omega arith)).newest
            ∙ ap (λ (k : ℕ). link_to (newest_below n (rows_of nodes) a (n + k))) last
            ∙ ap (λ (rows : List Row). link_to (newest_below n rows a (n + length (rows_of old)))) rows_is
            ∙ ap link_to (newest_where-mark (is_sub_of a) n (λ k. eqb k a) Aborted (rows_of old)
            (n + length (rows_of old)));
        rows = grind (arith, nat_tests, mark-same, is_handled, via_past);
      }

  module _ (nodes : List Node) (link : ℕ) (walked : IsWalked n old nodes a link) where
    pub walk_next : link ≢ NONE → IsNewestSub n (rows_of old) a walked.bound link
    walk_next there = newest_sub_is n (rows_of old) a walked.bound link kept.linked
        (link_some (newest_below n (rows_of old) a walked.bound) link walked.next there)

    pub walk_begun : link ≢ NONE → (link < n + length old) × (a < link) × (n ≤ link)
    walk_begun there = grind (arith, nat_tests, IsNewestSub, walk_next, length-rows_of)

    pub walk_end : link ≡ NONE → rows_of nodes ≡ mark n (is_above n (rows_of old) a) Aborted (rows_of old)
    walk_end none =
        let done : newest_below n (rows_of old) a walked.bound ≡ None =
        link_none (newest_below n (rows_of old) a walked.bound) link walked.next none
        (λ c e. grind (arith, nat_tests, IsNewestSub, newest_sub_is, length-rows_of)) in
        grind (arith, nat_tests, mark-same, is_handled, via_all, above_via)

    module _ (new : List Node) (i : ℕ) (at : link ≡ n + i) (there : link ≢ NONE) (kept' : AreNodes n new)
        (long : length new ≡ length old)
        (rows_is : rows_of new ≡ mark n (is_above n (rows_of nodes) link) Aborted (rows_of nodes)) where
      all_rows : rows_of new ≡ mark n (is_handled n (rows_of old) a link) Aborted (rows_of old)
      all_rows = grind (arith, nat_tests, link_some, mark-same, is_handled, is_above-mark, mark-mark, is_via, via_more)

      -- the next link, in the rows as they were
      next_link : (get_or new i some_node).older_sub ≡ link_to (newest_below n (rows_of old) a link)
      next_link =
          let begun = walk_begun there in
          let in_new : i < length new = omega (arith, begun.0) in
          let found = link_some (newest_below n (rows_of old) a walked.bound) link walked.next there in
          let same : newest_below n (rows_of new) a walked.bound ≡ Some link =
          ap (λ (rows : List Row). newest_below n rows a walked.bound) all_rows
          ∙ newest_where-mark (is_sub_of a) n (is_handled n (rows_of old) a link) Aborted (rows_of old) walked.bound
          ∙ found in
          let sub : IsNewestSub n (rows_of new) a walked.bound link =
          newest_sub_is n (rows_of new) a walked.bound link kept'.linked same in
          let under = sub.under (row_of_node (get_or new i some_node)) (row_at n new link i some_node at in_new) in
          (kept'.each link i some_node at in_new).older
          ∙ ap (λ (o : Origin). link_to (at_parent None o (λ p. newest_below n (rows_of new) p link))) under
          ∙ ap (λ (rows : List Row). link_to (newest_below n rows a link)) all_rows
          ∙ ap link_to (newest_where-mark (is_sub_of a) n (is_handled n (rows_of old) a link) Aborted (rows_of old)
          link)

      pub walk_step : IsWalked n old new a (get_or new i some_node).older_sub
      walk_step = record { bound = link; next = next_link; rows = all_rows }

      pub walk_smaller : steps_left (get_or new i some_node).older_sub < steps_left link
      walk_smaller = grind (arith, nat_tests, walk_begun, next_link, fewer_steps, IsNewestSub, newest_sub_is)
