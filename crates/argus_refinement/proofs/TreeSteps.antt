-- Each call of a tree is an event of its history.
use Rattle.std.proofs.Common.{Bool, Some, [], ap, arith, false, sym, true, ℕ, ◌+◌, ◌∙◌, ◌∷◌, ◌≡◌, ◌≢◌, eqb}
use Rattle.std.{proofs.lemmas.Bool.{Decides.nat_tests, and_parts, both_ways, eq-eqb, not-true}, specs.List.list_any}
use Rattle.std.specs.{Option.option_map_or, Prelude.{map, not, ◌&&◌, ◌==◌, ◌-◌}}
use Rattle.argus_actions.specs.Tree.{SameActions, Tree, after_abort, after_abort_others, after_begin, after_commit}
use Rattle.argus_actions.specs.Tree.{is_live_sibling}
use Rattle.argus_refinement.proofs.{TreeAnswers.{begun_row, live_is, under_is}, TreeRows.{above_said, ancestor_found}}
use Rattle.argus_refinement.{proofs.TreeRows.{ancestor_from, mark_said, under_said}, specs.TreeRefinement.IsTree}
use Rattle.argus_refinement.specs.TreeRefinement.{history_origin, history_row}
use Rattle.argus_model.proofs.{Bools.same_bool, Live.contains_siblings, Numbers.{any_found, any_from}}
use Rattle.argus_model.{proofs.{Rows.creator_of_origin, Standing.Orderly}, specs.{Ancestors.begun_by, Event.Aborted}}
use Rattle.argus_model.specs.{Event.{Began, Committed, origin_begun_by}, History.{History, Opened, folded, ◌▹◌}}
use Rattle.argus_model.specs.{Rows.{Row, is_above, mark, rows}, Status.{IsAborted, is_begun, is_live, is_sibling}}
use Rattle.argus_model.specs.Status.{live_siblings}
use Rattle.argus_actions.specs.Row as tree_row
use Rattle.argus_actions.specs.Rows as tree_rows
use Rattle.argus_actions.specs.declared.origin.Origin as tree_origin
use Rattle.argus_actions.specs.declared.status.Status.TheVariants as became

-- a tree without rows begins where the history opens
pub start_tree : {V : Type 0} (t : Tree) (n : ℕ) → t.folded ≡ n → t.rows ≡ [] → IsTree {V = V} t (Opened n)
start_tree t n f r = record { folded = f; rows = ap (map history_row) r }

-- the room of a tree is no matter
pub same_tree : {V : Type 0} (t t' : Tree) (h : History V) → SameActions t t' → IsTree t h → IsTree t' h
same_tree t t' h same is = record { folded = same.folded ∙ is.folded; rows = ap (map history_row) same.rows ∙ is.rows }

module _ {V : Type 0} (t : Tree) (h : History V) (is : IsTree t h) where
  -- an action begins
  pub begin_tree : (o : tree_origin.Origin) → IsTree (after_begin t o) (Began (history_origin o) ▹ h)
  begin_tree o = grind (arith, nat_tests)

  -- the marks that an event makes are made on the tree's rows
  marked_tree : (test test' : ℕ → Bool) → ((k : ℕ) → test (k + 1) ≡ test' k)
      → map history_row (tree_rows.mark t.folded test' became.Aborted t.rows) ≡ mark (folded h) test IsAborted (rows h)
  marked_tree test test' f = grind (arith, nat_tests, mark_said)

  -- an action commits
  pub commit_tree : (a : ℕ) → IsTree (after_commit t a) (Committed (a + 1) ▹ h)
  commit_tree a = grind (arith, nat_tests, mark_said)

  -- who stands above whom, in both words
  above_here : (x y : ℕ) → is_above (folded h) (rows h) (x + 1) (y + 1) ≡ tree_rows.is_above t.folded t.rows x y
  above_here x y = grind (arith, nat_tests, above_said)

  -- an action is aborted
  pub abort_tree : (a : ℕ) → IsTree (after_abort t a) (Aborted ((a + 1) ∷ []) ▹ h)
  abort_tree a = grind (arith, nat_tests, marked_tree, above_here)

  module _ (w : Orderly h) (a u : ℕ) (b : is_begun h (a + 1) ≡ true)
      (under : tree_rows.under_at t.folded t.rows a ≡ Some u) where
    -- begun under the same action
    child_is : (x : ℕ) → is_begun h (x + 1) ≡ true → tree_rows.is_child_of t.folded t.rows u x
        ≡ (begun_by h (x + 1) == begun_by h (a + 1))
    child_is x bx =
        let r = begun_row t h is w x bx in
        ap (λ o. option_map_or (λ row. tree_row.is_begun_under u row.origin) o false) r.1.0
        ∙ sym (under_said r.0.origin u)
        ∙ ap (λ (row : Row). eqb (origin_begun_by row.origin) (u + 1)) r.1.1
        ∙ ap (λ c. eqb c (u + 1)) (creator_of_origin h (x + 1))
        ∙ ap (λ c. eqb (begun_by h (x + 1)) c) (sym (under_is t h is w a u b under))

    -- a live sibling, in both words
    pub sibling_is : (x : ℕ) → is_live_sibling t a x ≡ (is_live h (x + 1) && is_sibling h (a + 1) (x + 1))
    sibling_is x = grind (arith, nat_tests, live_is, child_is)

    -- who stands under a live sibling, in both words
    ended_is : (k : ℕ) → list_any (λ z. is_above (folded h) (rows h) z (k + 1)) (live_siblings h (a + 1))
        ≡ tree_rows.has_ancestor (is_live_sibling t a) t.folded t.rows k
    ended_is k =
        same_bool (list_any (λ z. is_above (folded h) (rows h) z (k + 1)) (live_siblings h (a + 1)))
        (tree_rows.has_ancestor (is_live_sibling t a) t.folded t.rows k)
        (λ e.
        let q = any_found (λ z. is_above (folded h) (rows h) z (k + 1)) (live_siblings h (a + 1)) e in
        let s : (is_live h q.0 && is_sibling h (a + 1) q.0) ≡ true = sym (contains_siblings h (a + 1) q.0) ∙ q.1 in
        let n : q.0 ≢ 0 = other_than_base q.0 s in
        let y : ℕ = q.0 - 1 in
        let same : y + 1 ≡ q.0 = omega arith in
        ancestor_from (is_live_sibling t a) t.folded t.rows y k
        (sibling_is y ∙ ap (λ z. is_live h z && is_sibling h (a + 1) z) same ∙ s)
        (sym (above_here y k) ∙ ap (λ z. is_above (folded h) (rows h) z (k + 1)) same ∙ q.2))
        (λ e.
        let by_found = ancestor_found (is_live_sibling t a) t.folded t.rows k e in
        let by_from = any_from (λ z. is_above (folded h) (rows h) z (k + 1)) (live_siblings h (a + 1)) in
        grind (arith, by_found, by_from, contains_siblings h (a + 1), sibling_is, above_here))
      where
        other_than_base : (z : ℕ) → (is_live h z && is_sibling h (a + 1) z) ≡ true → z ≢ 0
        other_than_base z s e =
            let p = and_parts (is_live h z) (is_sibling h (a + 1) z) s in
            let r = and_parts (not (z == 0)) (not (z == a + 1) && begun_by h z == begun_by h (a + 1)) p.1 in
            absurd (both_ways (z == 0) (not-true (z == 0) r.0) (eq-eqb z 0 e))

    -- an action ends its siblings
    pub abort_others_tree : IsTree (after_abort_others t a) (Aborted (live_siblings h (a + 1)) ▹ h)
    abort_others_tree = record {
      folded = is.folded;
      rows =
          marked_tree (λ x. list_any (λ z. is_above (folded h) (rows h) z x) (live_siblings h (a + 1)))
          (tree_rows.has_ancestor (is_live_sibling t a) t.folded t.rows) ended_is;
    }
