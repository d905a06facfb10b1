-- What a commit adds to the effects.
use Rattle.std.proofs.Common.{List, None, Some, [], ap, arith, sym, true, ◌+◌, ◌==◌, ◌∙◌, ◌∷◌, ◌≡◌}
use Rattle.std.{proofs.lemmas.Bool.Decides.nat_tests, specs.{Option.option_to_list, Prelude.{IfOk, Result}}}
use Rattle.std.specs.Prelude.{if◌then◌else◌}
use Rattle.argus_actions.specs.{Refusals.commit_refusal, Tree.{Tree, parent_of}, declared.action_id.ActionId.ActionId}
use Rattle.argus_entries.specs.{Call.commit, Entry.PlainEntry}
use Rattle.argus_core.specs.{ReadyCommit.added_by_call, Effect.{effect_if_live, effect_of}}
use Rattle.argus_core.specs.StateRefinement.{StateRefinesJournal}
use Rattle.argus_core.{specs.declared.engine.atomic_object.AtomicObject.AtomicObject, proofs.Begun.kept_orderly}
use Rattle.argus_core.proofs.Ends.{commit_refused, committed_right}
use Rattle.argus_journal.{specs.{Events.history, Opening.Opening, JournalView.JournalView}, proofs.Legal.free_none}
use Rattle.argus_refinement.{proofs.TreeAnswers.{no_parent_is, parent_is}, specs.TreeRefinement.journal_refusal_if_any}
use Rattle.argus_model.{proofs.Siblings.live_begun, specs.{Ancestors.parent, Status.is_live}}
use Rattle.argus_objects.specs.declared.holdings.Holdings.{Holdings}

pub if_ok : {A B : Type 0} {P Q : A → Type 0} (r : Result A B) → IfOk r P → ((x : A) → P x → Q x) → IfOk r Q
if_ok r p f = grind (arith, nat_tests)

module _ (t : Tree) (objects : List AtomicObject) (holdings : Holdings) (s : Opening) (j : List PlainEntry)
    (k : StateRefinesJournal t objects holdings s j) (a : ActionId) (free : commit_refusal t a.0 ≡ None) where
  abbrev journal : JournalView
  journal = record { opening = s; entries = j }

  live : is_live (history s j) (a.0 + 1) ≡ true
  live = (free_none (history s j) a.0 None (sym (commit_refused _ _ _ _ _ k a)
      ∙ ap journal_refusal_if_any free)).live

  -- by its parent
  by_parent : added_by_call journal (commit a.0)
      ≡ (if parent (history s j) (a.0 + 1) == 0 then effect_of journal a.0 ∷ [] else [])
  by_parent = grind (arith, nat_tests, committed_right _ _ _ _ _ k a free)

  pub top_adds : parent_of t a.0 ≡ None → option_to_list (effect_if_live journal a.0) ≡ added_by_call journal
      (commit a.0)
  top_adds top =
      let begun = live_begun (history s j) (a.0 + 1) live in
      let parent = no_parent_is t (history s j) k.state.actions (kept_orderly k) a.0 begun top in
      grind (arith, nat_tests, live, by_parent, parent)

  pub sub_adds : (p : ActionId) → parent_of t a.0 ≡ Some p → added_by_call journal (commit a.0) ≡ []
  sub_adds p sub =
      let begun = live_begun (history s j) (a.0 + 1) live in
      let parent = parent_is t (history s j) k.state.actions (kept_orderly k) a.0 p begun sub in
      grind (arith, nat_tests, by_parent, parent)
