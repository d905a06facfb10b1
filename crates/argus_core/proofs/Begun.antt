-- One more entry: the parts stand to the history with its event. One more action.
use Rattle.std.proofs.Common.{List, None, Option, Some, [], ap, arith, length, refl, sym, ℕ, ◌+◌, ◌-◌, ◌++◌, ◌∙◌, ◌∷◌}
use Rattle.std.{proofs.{Common.◌≡◌, lemmas.{List.append-nil, Bool.Decides.nat_tests}}, specs.Prelude.map}
use Rattle.std.specs.Prelude.{slice_index_or}
use Rattle.argus_actions.specs.Tree.{SameActions, Tree, after_begin, next}
use Rattle.argus_actions.specs.declared.action_refusal.ActionRefusal.{ActionRefusal}
use Rattle.argus_entries.specs.{Call.PlainCall, Entry.PlainEntry, Reply.{begun, refused}}
use Rattle.argus_core.specs.StateRefinement.{StateRefinesHistory, StateRefinesJournal}
use Rattle.argus_core.specs.declared.engine.atomic_object.AtomicObject.{AtomicObject}
use Rattle.argus_journal.specs.{Answers.{answer, granted, refusal}, Entries.entries, Events.{happens, history}}
use Rattle.argus_journal.specs.{Objects.{declared_by, shapes}, Opening.{Opening, model_opening}, JournalView.entry_with}
use Rattle.argus_journal.proofs.{Legal.lawful, NextEntry.by_event}
use Rattle.argus_refinement.specs.TreeRefinement.{history_origin, journal_refusal, journal_refusal_if_any}
use Rattle.argus_refinement.proofs.{CellBegins.begin_cell, CellHolders.{cell_same, orderly}, TreeAnswers.next_is}
use Rattle.argus_refinement.proofs.TreeSteps.{begin_tree, same_tree}
use Rattle.argus_model.specs.{Event.{Began, Event}, History.{History, next_action, ◌▹◌}, Lawful.Lawful, Meaning.reads}
use Rattle.argus_model.{specs.Numbers.contains, proofs.{NextHolders.holders_after_begin, Standing.Orderly}}
use Rattle.argus_objects.specs.declared.holdings.Holdings.{Holdings}
use Rattle.argus_actions.specs.declared.origin.Origin as act_origin

-- what refuses the call by the tree is its reply
pub refused_reply : (s : Opening) (j : List PlainEntry) (call : PlainCall) (q : Option ActionRefusal)
    (why : ActionRefusal) → journal_refusal_if_any q ≡ refusal (history s j) (shapes s j) call → q ≡ Some why
    → answer s j call ≡ refused (journal_refusal why)
refused_reply s j call q why e is = grind (arith, nat_tests)

pub granted_reply : (s : Opening) (j : List PlainEntry) (call : PlainCall) (q : Option ActionRefusal)
    → journal_refusal_if_any q ≡ refusal (history s j) (shapes s j) call → q ≡ None
    → answer s j call ≡ granted s (history s j) (shapes s j) call
granted_reply s j call q e is = grind (arith, nat_tests)

-- one more entry that declares nothing: the parts stand to the history with its event
module _ (s : Opening) (e : PlainEntry) (j : List PlainEntry) (t t' : Tree) (objects objects' : List AtomicObject)
    (holdings holdings' : Holdings) (k : StateRefinesJournal t objects holdings s j) (right : e.reply
    ≡ answer s j e.call)
    (none : declared_by e.call e.reply ≡ []) (same : map (λ k. k.shape) objects' ≡ map (λ k. k.shape) objects)
    (few : length objects' ≡ length objects) where
  declares_none : map (λ k. k.shape) objects' ≡ shapes s (e ∷ j)
  declares_none = same ∙ k.shapes ∙ sym (ap (λ xs. shapes s j ++ xs) none ∙ append-nil (shapes s j))

  pub kept_event : (event : Event PlainEntry) → happens s e j ≡ Some event
      → (Lawful entries (model_opening s) (event ▹ history s j) → StateRefinesHistory t' objects' holdings' s
      (event ▹ history s j))
      → StateRefinesJournal t' objects' holdings' s (e ∷ j)
  kept_event event q f =
      let state = by_event s e j event (StateRefinesHistory t' objects' holdings' s) (right, k.legal) q f in
      grind (arith, nat_tests, declares_none, state)

-- the history of what is kept
pub kept_orderly : {t : Tree} {objects : List AtomicObject} {holdings : Holdings} {s : Opening} {j : List PlainEntry}
    → StateRefinesJournal t objects holdings s j → Orderly (history s j)
kept_orderly {s = s} {j = j} k = orderly s (history s j) (lawful s j k.legal)

-- the room of the tree is no matter
pub parts_room : (s : Opening) (h : History PlainEntry) (t t' : Tree) (objects : List AtomicObject)
    (holdings : Holdings) → SameActions t t' → StateRefinesHistory t objects holdings s h
    → StateRefinesHistory t' objects holdings s h
parts_room s h t t' objects holdings ts k = grind (arith, nat_tests, same_tree, cell_same)

-- one more action
pub begin_parts : (s : Opening) (h : History PlainEntry) (t : Tree) (objects : List AtomicObject) (holdings : Holdings)
    (from : act_origin.Origin) → Lawful entries (model_opening s) (Began (history_origin from) ▹ h)
    → StateRefinesHistory t objects holdings s h → StateRefinesHistory (after_begin t from) objects holdings s (Began
    (history_origin from) ▹ h)
begin_parts s h t objects holdings from l k =
    let now = orderly s (Began (history_origin from) ▹ h) l in
    record {
      actions = begin_tree t h k.actions from;
      each = λ o d lt. begin_cell s h t k.actions from l o (slice_index_or objects o d).cell (k.each o d lt);
      held = λ a o.
          let rs = ap (λ xs. contains xs (a.0 + 1)) (holders_after_begin (reads entries) h
          (history_origin from) now o) in
          let ws = ap (λ xs. contains xs (a.0 + 1)) (holders_after_begin entries.writes h
          (history_origin from) now o) in
          grind (arith, k.held a o, rs, ws);
      there = k.there;
    }

-- a call that begins an action of this origin, which q would refuse
pub record IsBegin (call : PlainCall) (from : act_origin.Origin) (q : Option ActionRefusal) (s : Opening)
    (j : List PlainEntry) : Type 0 where
  pub refused : journal_refusal_if_any q ≡ refusal (history s j) (shapes s j) call
  pub begins : granted s (history s j) (shapes s j) call ≡ begun (next_action (history s j) - 1)
  pub happens : (n : ℕ) → happens s (entry_with call (begun n)) j
      ≡ Some (Began (history_origin from))
  pub declares : (n : ℕ) → declared_by call (begun n) ≡ []

module _ (t : Tree) (objects : List AtomicObject) (holdings : Holdings) (s : Opening) (j : List PlainEntry)
    (k : StateRefinesJournal t objects holdings s j) (call : PlainCall) (from : act_origin.Origin)
    (q : Option ActionRefusal) (b : IsBegin call from q s j) (free : q ≡ None) (n : ℕ) (number : n ≡ next t) where
  pub begun_right : begun n ≡ answer s j call
  begun_right =
      let e = next_is t (history s j) k.state.actions (kept_orderly k) in
      let eq : n ≡ next_action (history s j) - 1 = omega arith in
      ap begun eq ∙ sym (granted_reply s j call q b.refused free ∙ b.begins)

  pub kept_begun : (t' : Tree) → t' ≡ after_begin t from
      → StateRefinesJournal t' objects holdings s (entry_with call (begun n) ∷ j)
  kept_begun t' is =
      kept_event _ _ _ _ _ _ _ _ _ k begun_right (b.declares n) refl refl (Began (history_origin from)) (b.happens n)
      (λ l. rw is (begin_parts s (history s j) t objects holdings from l k.state))
