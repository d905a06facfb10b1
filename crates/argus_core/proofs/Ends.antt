-- The calls that end actions.
use Rattle.std.proofs.Common.{List, None, Some, [], ap, arith, length, refl, subst, sym, true, ℕ, ◌+◌, ◌<◌, ◌≤◌, ◌∙◌}
use Rattle.std.proofs.{Common.{◌∷◌, ◌≡◌}, lemmas.{List.{get_or-map, length-map, same_lists}, Bool.Decides.nat_tests}}
use Rattle.std.specs.Prelude.{map, slice_index_or}
use Rattle.argus_actions.specs.{Refusals.{abort_others_refusal, abort_refusal, commit_refusal}, Rows.has_ancestor}
use Rattle.argus_actions.specs.Tree.{Tree, after_abort, after_abort_others, after_commit, is_ancestor, is_live_sibling}
use Rattle.argus_actions.specs.{Tree.{next, parent_of}, declared.action_id.ActionId.ActionId}
use Rattle.argus_contents.specs.{Answer.done, declared.obj_id.ObjId.ObjId}
use Rattle.argus_entries.specs.{Call.{abort, abort_others, commit}, Entry.PlainEntry, Reply.answered}
use Rattle.argus_core.specs.{StateRefinement.{StateRefinesHistory, StateRefinesJournal}, Sweeping.AreEnded}
use Rattle.argus_core.specs.Moving.{AreChanged, IsInherited, IsSettled}
use Rattle.argus_core.{specs.declared.engine.atomic_object.AtomicObject.AtomicObject, proofs.Begun.granted_reply}
use Rattle.argus_core.proofs.{Begun.{kept_event, kept_orderly}, CommittedState.{parts_sub, parts_top}}
use Rattle.argus_core.proofs.{EndedState.{parts_ended, under_one, under_siblings_is}, Under.others_under}
use Rattle.argus_journal.specs.{Answers.{answer, refusal}, Events.history, Objects.shapes, Opening.Opening}
use Rattle.argus_journal.{specs.JournalView.entry_with, proofs.Legal.{free_none, lawful, live_none}}
use Rattle.argus_refinement.{specs.TreeRefinement.journal_refusal_if_any, proofs.CellAborts.{abort_more, others_more}}
use Rattle.argus_refinement.proofs.{CellCommits.parent_less, TreeAnswers.next_is, TreeRefusals.{abort_is, commit_is}}
use Rattle.argus_refinement.proofs.{TreeRefusals.others_is, TreeSteps.{abort_others_tree, abort_tree}}
use Rattle.argus_model.specs.{Event.{Aborted, Committed}, History.History, Status.{is_live, live_siblings}}
use Rattle.argus_model.proofs.{Live.is_begun_parts, Siblings.live_begun}
use Rattle.argus_objects.specs.{Holdings.{Lists, PassedOn, SameLists, objects_held_by}, Object.Object}
use Rattle.argus_objects.specs.declared.holdings.Holdings.{Holdings}

-- where there are objects, there is one
pub some_object : (xs : List AtomicObject) (o : ℕ) → o < length xs → AtomicObject
some_object [] o lt = absurd (omega arith)
some_object (x ∷ xs) o lt = x

-- the objects keep their shapes
pub shapes_same : (old new : List AtomicObject) → length new ≡ length old → ((o : ℕ) (d : AtomicObject) → o < length old
    → (slice_index_or new o d).shape ≡ (slice_index_or old o d).shape) → map (λ k. k.shape) new ≡ map (λ k. k.shape) old
shapes_same old new count each =
    same_lists (map (λ (k : AtomicObject). k.shape) new) (map (λ (k : AtomicObject). k.shape) old)
    (length-map new (λ (k : AtomicObject). k.shape) ∙ count ∙ sym (length-map old (λ (k : AtomicObject). k.shape)))
    (λ o d lt.
    let low' : o < length new = subst (λ n. o < n) (length-map new (λ (k : AtomicObject). k.shape)) lt in
    let low : o < length old = subst (λ n. o < n) count low' in
    let e : AtomicObject = some_object old o low in
    get_or-map (λ (k : AtomicObject). k.shape) new o e d low' ∙ each o e low
    ∙ sym (get_or-map (λ (k : AtomicObject). k.shape) old o e d low))

pub shapes_kept : (R : Object → Object → Type 0) (list : List ObjId) (old new : List AtomicObject)
    → AreChanged R list old new → map (λ k. k.shape) new ≡ map (λ k. k.shape) old
shapes_kept R list old new k = shapes_same old new k.count (λ o d lt. (k.each o d lt).shape)

-- the lists of the holdings, whatever the room
pub parts_lists : (t : Tree) (objects : List AtomicObject) (holdings holdings' : Holdings) (s : Opening)
    (h : History PlainEntry) → SameLists holdings holdings' → StateRefinesHistory t objects holdings s h
    → StateRefinesHistory t objects holdings' s h
parts_lists t objects holdings holdings' s h same k = grind (arith, nat_tests)

-- a live action has a row
pub record IsStanding (t : Tree) (h : History PlainEntry) (a : ℕ) : Type 0 where
  pub live : is_live h (a + 1) ≡ true
  pub held : t.folded ≤ a
  pub low : a < next t

module _ (t : Tree) (objects : List AtomicObject) (holdings : Holdings) (s : Opening) (j : List PlainEntry)
    (k : StateRefinesJournal t objects holdings s j) (a : ActionId) where
  standing : is_live (history s j) (a.0 + 1) ≡ true → IsStanding t (history s j) a.0
  standing la =
      let b = is_begun_parts (history s j) (a.0 + 1) (live_begun (history s j) (a.0 + 1) la) in
      let n = next_is t (history s j) k.state.actions (kept_orderly k) in
      grind (arith, nat_tests, b, n)

  pub commit_refused : journal_refusal_if_any (commit_refusal t a.0) ≡ refusal (history s j) (shapes s j) (commit a.0)
  commit_refused = commit_is t (history s j) k.state.actions (kept_orderly k) a.0

  pub abort_refused : journal_refusal_if_any (abort_refusal t a.0) ≡ refusal (history s j) (shapes s j) (abort a.0)
  abort_refused = abort_is t (history s j) k.state.actions (kept_orderly k) a.0

  pub others_refused : journal_refusal_if_any (abort_others_refusal t a.0)
      ≡ refusal (history s j) (shapes s j) (abort_others a.0)
  others_refused = others_is t (history s j) k.state.actions (kept_orderly k) a.0

  pub committed_right : commit_refusal t a.0 ≡ None → answered done ≡ answer s j (commit a.0)
  committed_right free = sym (granted_reply s j (commit a.0) (commit_refusal t a.0) commit_refused free)

  aborted_right : abort_refusal t a.0 ≡ None → answered done ≡ answer s j (abort a.0)
  aborted_right free = sym (granted_reply s j (abort a.0) (abort_refusal t a.0) abort_refused free)

  others_right : abort_others_refusal t a.0 ≡ None → answered done ≡ answer s j (abort_others a.0)
  others_right free = sym (granted_reply s j (abort_others a.0) (abort_others_refusal t a.0) others_refused free)

  pub abort_stands : abort_refusal t a.0 ≡ None → IsStanding t (history s j) a.0
  abort_stands free = standing (live_none (history s j) a.0 None (sym abort_refused ∙ ap journal_refusal_if_any free)).0

  pub others_stand : abort_others_refusal t a.0 ≡ None → IsStanding t (history s j) a.0
  others_stand free = grind (arith, nat_tests, standing, free_none, others_refused)

  -- an action that may commit isn't its own parent
  pub parent_other : (p : ActionId) → commit_refusal t a.0 ≡ None → parent_of t a.0 ≡ Some p → a.0 ≡ p.0 → ⊥
  parent_other p free sub e = grind (arith, nat_tests, free_none, commit_refused, parent_less, lawful)

module _ (t t' : Tree) (objects objects' : List AtomicObject) (holdings holdings' : Holdings) (s : Opening)
    (j : List PlainEntry) (a : ActionId) (k : StateRefinesJournal t objects holdings s j) where
  module _ (free : commit_refusal t a.0 ≡ None) (is : t' ≡ after_commit t a.0) where
    pub kept_top : parent_of t a.0 ≡ None → AreChanged (IsSettled t a) (objects_held_by holdings a) objects objects'
        → Lists holdings a [] holdings'
        → StateRefinesJournal t' objects' holdings' s (entry_with (commit a.0) (answered done) ∷ j)
    kept_top top moved cleared =
        kept_event _ _ _ _ _ _ _ _ _ k (committed_right _ _ _ _ _ k a free) refl (shapes_kept _ _ _ _ moved) moved.count
        (Committed (a.0 + 1)) refl (λ l. rw is (parts_top _ _ _ _ _ _ _ k.state a l top moved cleared))

    pub kept_sub : (p : ActionId) → parent_of t a.0 ≡ Some p
        → AreChanged (IsInherited t a p) (objects_held_by holdings a) objects objects' → PassedOn holdings a p holdings'
        → StateRefinesJournal t' objects' holdings' s (entry_with (commit a.0) (answered done) ∷ j)
    kept_sub p sub moved handed_on =
        kept_event _ _ _ _ _ _ _ _ _ k (committed_right _ _ _ _ _ k a free) refl (shapes_kept _ _ _ _ moved) moved.count
        (Committed (a.0 + 1)) refl (λ l. rw is (parts_sub _ _ _ _ _ _ _ k.state a l p sub moved handed_on))

  pub kept_abort : abort_refusal t a.0 ≡ None → t' ≡ after_abort t a.0
      → AreEnded t (is_ancestor t a.0) objects objects' holdings holdings'
      → StateRefinesJournal t' objects' holdings' s (entry_with (abort a.0) (answered done) ∷ j)
  kept_abort free is moved =
      let h = history s j in
      let la = (abort_stands _ _ _ _ _ k a free).live in
      kept_event _ _ _ _ _ _ _ _ _ k (aborted_right _ _ _ _ _ k a free) refl
      (shapes_same objects objects' moved.count moved.shape) moved.count (Aborted ((a.0 + 1) ∷ [])) refl
      (λ l. rw is (parts_ended s h t (after_abort t a.0) objects objects' holdings holdings' k.state ((a.0 + 1) ∷ [])
      (is_ancestor t a.0) l (under_one h t k.state.actions (kept_orderly k) a.0 la) (abort_more t a.0)
      (abort_tree t h k.state.actions a.0) moved))

  pub kept_others : abort_others_refusal t a.0 ≡ None → t' ≡ after_abort_others t a.0
      → AreEnded t (has_ancestor (is_live_sibling t a.0) t.folded t.rows) objects objects' holdings holdings'
      → StateRefinesJournal t' objects' holdings' s (entry_with (abort_others a.0) (answered done) ∷ j)
  kept_others free is moved =
      let h = history s j in
      let w = kept_orderly k in
      let la = (others_stand _ _ _ _ _ k a free).live in
      let actions = live_siblings h (a.0 + 1) in
      let u = others_under t a.0 free in
      kept_event _ _ _ _ _ _ _ _ _ k (others_right _ _ _ _ _ k a free) refl
      (shapes_same objects objects' moved.count moved.shape) moved.count (Aborted actions) refl
      (λ l. rw is (parts_ended s h t (after_abort_others t a.0) objects objects' holdings holdings' k.state actions
      (has_ancestor (is_live_sibling t a.0) t.folded t.rows) l
      (under_siblings_is h t k.state.actions w a.0 u.0 la u.1) (others_more t a.0)
      (abort_others_tree t h k.state.actions w a.0 u.0 (live_begun h (a.0 + 1) la) u.1) moved))
