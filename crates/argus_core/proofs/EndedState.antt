-- All objects, and the lists of what each action holds, when actions are ended.
use Rattle.std.proofs.Common.{Bool, List, Some, [], ap, arith, length, subst, sym, true, ℕ, ◌+◌, ◌-◌, ◌<◌, ◌∙◌, ◌∷◌}
use Rattle.std.{proofs.{Common.{◌≡◌, ◌||◌}, lemmas.Bool.{and_parts, Decides.nat_tests}}, specs.Prelude.not}
use Rattle.std.specs.Prelude.{slice_index_or, ◌&&◌}
use Rattle.argus_actions.specs.{Rows.{has_ancestor, under_at}, Tree.{Tree, is_ancestor, is_live_sibling}}
use Rattle.argus_actions.specs.declared.action_id.ActionId.{ActionId}
use Rattle.argus_entries.specs.Entry.{PlainEntry}
use Rattle.argus_core.specs.{StateRefinement.{StateRefinesHistory, holds}, Moving.is_listed, Sweeping.AreCovered}
use Rattle.argus_core.specs.{Sweeping.AreEnded, declared.engine.atomic_object.AtomicObject.AtomicObject}
use Rattle.argus_journal.specs.{Entries.entries, Opening.{Opening, model_opening}}
use Rattle.argus_refinement.{specs.TreeRefinement.IsTree, proofs.{CellAborts.ended_cell, CellHolders.orderly}}
use Rattle.argus_refinement.proofs.{CellHolders.{reader_live, writer_live}, CellLists.reader_said}
use Rattle.argus_refinement.proofs.{TreeAnswers.ancestor_begun_is, TreeSteps.sibling_is, TreeRows.ancestor_found}
use Rattle.argus_refinement.proofs.TreeRows.{ancestor_from}
use Rattle.argus_model.specs.{Event.Aborted, History.{History, ◌▹◌}, Lawful.Lawful, Meaning.reads, Status.is_begun}
use Rattle.argus_model.{specs.Status.{is_live, is_sibling, live_siblings}, proofs.Bools.same_bool}
use Rattle.argus_model.proofs.{Live.{contains_siblings, is_begun_parts}, Standing.Orderly}
use Rattle.argus_model.proofs.{NextHolders.{contains_filtered, holders_after_abort}, Numbers.{any_found, any_from}}
use Rattle.argus_model.proofs.Siblings.{live_begun}
use Rattle.argus_objects.specs.{Holdings.objects_held_by, CellChanges.{has_version, is_reader}}
use Rattle.argus_objects.specs.declared.holdings.Holdings.{Holdings}
use Rattle.argus_model.specs.Ancestors as model

-- ended says of each live action whether it stands under one of those that the event names; t' is the tree after it
module _ (s : Opening) (h : History PlainEntry) (t t' : Tree) (objects objects' : List AtomicObject)
    (holdings holdings' : Holdings) (k : StateRefinesHistory t objects holdings s h) (actions : List ℕ) (ended : ℕ
    → Bool)
    (l : Lawful entries (model_opening s) (Aborted actions ▹ h))
    (under : (x : ActionId) → is_live h (x.0 + 1) ≡ true → ended x.0 ≡ model.is_under h actions (x.0 + 1))
    (more : (x y : ℕ) → is_ancestor t x y ≡ true → is_ancestor t' x y ≡ true) (after : IsTree t' (Aborted actions ▹ h))
    (moved : AreEnded t ended objects objects' holdings holdings') where
  spared : (x : ActionId) (o : ℕ) → holds (Aborted actions ▹ h) (x.0 + 1) o
      ≡ (holds h (x.0 + 1) o && not (model.is_under h actions (x.0 + 1)))
  spared x o =
      let w = orderly s (Aborted actions ▹ h) l in
      let rs = holders_after_abort (reads entries) h actions w o in
      let ws = holders_after_abort entries.writes h actions w o in
      grind (arith, nat_tests, rs, ws, contains_filtered)

  holder_live : (x : ActionId) (o : ℕ) → holds h (x.0 + 1) o ≡ true → is_live h (x.0 + 1) ≡ true
  holder_live x o e = grind (arith, nat_tests, reader_live, writer_live)

  -- who is on a list after it holds the object then
  held_now : (x : ActionId) (o : ℕ) → is_listed (objects_held_by holdings' x) o ≡ holds (Aborted actions ▹ h)
      (x.0 + 1) o
  held_now x o = grind (arith, nat_tests, spared x o, holder_live x o)

  -- and the object is there
  there_now : (x : ActionId) (o : ℕ) → is_listed (objects_held_by holdings' x) o ≡ true → o < length objects'
  there_now x o i =
      let list = ap (λ list. is_listed list o) (moved.lists x) in
      grind (arith, nat_tests, list, k.there x o, moved.count)

  pub parts_ended : StateRefinesHistory t' objects' holdings' s (Aborted actions ▹ h)
  parts_ended = record {
    actions = after;
    each = λ o d lt.
        let low : o < length objects = subst (λ n. o < n) moved.count lt in
        let r = moved.cell o d low in
        ended_cell s h t t' k.actions actions ended l under more o (slice_index_or objects o d).cell
        (slice_index_or objects' o d).cell (k.each o d low) r.base r.readers r.versions r.lawful;
    held = held_now;
    there = there_now;
  }

-- who stands under an action that is aborted, in both words
pub under_one : (h : History PlainEntry) (t : Tree) → IsTree t h → Orderly h → (a : ℕ) → is_live h (a + 1) ≡ true
    → (x : ActionId) → is_live h (x.0 + 1) ≡ true → is_ancestor t a x.0 ≡ model.is_under h ((a + 1) ∷ []) (x.0 + 1)
under_one h t is w a la x lx = grind (arith, nat_tests, ancestor_begun_is, live_begun)

-- who stands under a live sibling, in both words
module _ (h : History PlainEntry) (t : Tree) (is : IsTree t h) (w : Orderly h) (a u : ℕ) (la : is_live h (a + 1) ≡ true)
    (from : under_at t.folded t.rows a ≡ Some u) where
  sibling : (y : ℕ) → is_live_sibling t a y ≡ (is_live h (y + 1) && is_sibling h (a + 1) (y + 1))
  sibling y = sibling_is t h is w a u (live_begun h (a + 1) la) from y

  pub under_siblings_is : (x : ActionId) → is_live h (x.0 + 1) ≡ true
      → has_ancestor (is_live_sibling t a) t.folded t.rows x.0 ≡ model.is_under h (live_siblings h (a + 1)) (x.0 + 1)
  under_siblings_is x lx =
      let bx : is_begun h (x.0 + 1) ≡ true = live_begun h (x.0 + 1) lx in
      same_bool (has_ancestor (is_live_sibling t a) t.folded t.rows x.0)
      (model.is_under h (live_siblings h (a + 1)) (x.0 + 1))
      (λ e.
      let q = ancestor_found (is_live_sibling t a) t.folded t.rows x.0 e in
      let s = and_parts (is_live h (q.0 + 1)) (is_sibling h (a + 1) (q.0 + 1)) (sym (sibling q.0) ∙ q.1) in
      any_from (λ z. model.is_ancestor h z (x.0 + 1)) (live_siblings h (a + 1)) (q.0 + 1)
      (contains_siblings h (a + 1) (q.0 + 1) ∙ sym (sibling q.0) ∙ q.1)
      (sym (ancestor_begun_is t h is w q.0 x.0 (live_begun h (q.0 + 1) s.0) bx) ∙ q.2))
      (λ e.
      let q = any_found (λ z. model.is_ancestor h z (x.0 + 1)) (live_siblings h (a + 1)) e in
      let s : (is_live h q.0 && is_sibling h (a + 1) q.0) ≡ true = sym (contains_siblings h (a + 1) q.0) ∙ q.1 in
      let bz : is_begun h q.0 ≡ true = live_begun h q.0 (and_parts (is_live h q.0) (is_sibling h (a + 1) q.0) s).0 in
      let state = is_begun_parts h q.0 bz in
      let y : ℕ = q.0 - 1 in
      let same : y + 1 ≡ q.0 = omega (arith, state.0) in
      ancestor_from (is_live_sibling t a) t.folded t.rows y x.0
      (sibling y ∙ ap (λ z. is_live h z && is_sibling h (a + 1) z) same ∙ s)
      (ancestor_begun_is t h is w y x.0 (ap (λ z. is_begun h z) same ∙ bz) bx
      ∙ ap (λ z. model.is_ancestor h z (x.0 + 1)) same ∙ q.2))

-- who holds an object has it on its list
module _ (s : Opening) (h : History PlainEntry) (t : Tree) (objects : List AtomicObject) (holdings : Holdings)
    (k : StateRefinesHistory t objects holdings s h) where
  -- and nobody else has
  pub listed_if_held : (x : ActionId) (o : ℕ) (d : AtomicObject) → o < length objects
      → is_listed (objects_held_by holdings x) o
      ≡ (is_reader x (slice_index_or objects o d).cell.readers
      || has_version x (slice_index_or objects o d).cell.versions)
  listed_if_held x o d lt = grind (arith, nat_tests, reader_said)

  pub parts_cover : AreCovered objects holdings
  parts_cover = λ x o d lt e. listed_if_held x o d lt ∙ e
