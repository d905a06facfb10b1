-- What calls that begin and end actions count on, said of a guardian's state.
use Rattle.std.proofs.{Common.{None, Option, Some, refl, ℕ, ◌∷◌, ◌≡◌, arith}, lemmas.Bool.Decides.nat_tests}
use Rattle.argus_actions.specs.Refusals.{abort_others_refusal, abort_refusal, begin_nested_refusal, begin_sub_refusal}
use Rattle.argus_actions.specs.{Refusals.{begin_top_refusal, commit_refusal}, declared.action_id.ActionId.ActionId}
use Rattle.argus_actions.specs.{declared.action_refusal.ActionRefusal.ActionRefusal, Tree.{SameActions, Tree}}
use Rattle.argus_actions.specs.{Nodes.AreLinked, Tree.{after_begin, next}}
use Rattle.argus_contents.specs.Answer.{done}
use Rattle.argus_entries.specs.Call.{PlainCall, abort, abort_others, begin_nested, begin_sub, begin_top, commit}
use Rattle.argus_entries.specs.Reply.{answered, begun, refused}
use Rattle.argus_core.specs.{StateRefinement.StateRefinesJournal, GuardianState.{StateInvariant, journal_view_of}}
use Rattle.argus_core.specs.{Sweeping.CanSweep, declared.engine.guardian_state.GuardianState.GuardianState}
use Rattle.argus_core.proofs.{EndedState.parts_cover, Begun.{IsBegin, begun_right, kept_begun, parts_room}}
use Rattle.argus_core.proofs.{Begun.{refused_reply, kept_orderly}, Ends.{abort_refused, commit_refused, others_refused}}
use Rattle.argus_journal.specs.{JournalView.{entry_with, refusal_to, reply_to}, Answers.granted, Events.history}
use Rattle.argus_journal.specs.{LegalJournal.{entries_in, opening_in}, Objects.shapes}
use Rattle.argus_refinement.specs.TreeRefinement.{journal_refusal, journal_refusal_if_any}
use Rattle.argus_refinement.proofs.TreeRefusals.{nested_is, sub_is, top_is}
use Rattle.argus_actions.specs.declared.origin.Origin as act_origin
use Rattle.argus_actions.specs.declared.origin.Origin.TheVariants as origin

-- a call that ends actions, which q would refuse
pub record Ends (p : GuardianState) (call : PlainCall) (q : Option ActionRefusal) : Type 0 where
  pub refused : journal_refusal_if_any q ≡ refusal_to (journal_view_of p) call
  pub done : granted (opening_in p.journal) (history (opening_in p.journal) (entries_in p.journal))
      (shapes (opening_in p.journal) (entries_in p.journal)) call ≡ answered done

module _ (p : GuardianState) (k : StateInvariant p) (a : ActionId) where
  pub commits : Ends p (commit a.0) (commit_refusal p.tree a.0)
  commits = record { refused = commit_refused _ _ _ _ _ k a; done = refl }

  pub aborts : Ends p (abort a.0) (abort_refusal p.tree a.0)
  aborts = record { refused = abort_refused _ _ _ _ _ k a; done = refl }

  pub aborts_others : Ends p (abort_others a.0) (abort_others_refusal p.tree a.0)
  aborts_others = record { refused = others_refused _ _ _ _ _ k a; done = refl }

module _ (p : GuardianState) {call : PlainCall} {q : Option ActionRefusal} (ends : Ends p call q) where
  -- what the tree refuses is refused
  pub end_refused : (why : ActionRefusal) → q ≡ Some why
      → reply_to (journal_view_of p) call ≡ refused (journal_refusal why)
  end_refused why is = refused_reply (opening_in p.journal) (entries_in p.journal) call q why ends.refused is

  -- what it doesn't refuse is done
  pub end_right : q ≡ None → answered done ≡ reply_to (journal_view_of p) call
  end_right free = grind (arith, nat_tests)

-- in each state the call begins an action of this origin, which q would refuse
pub record Begins (call : PlainCall) (from : act_origin.Origin) (q : Tree → Option ActionRefusal) : Type 0 where
  pub at : (p : GuardianState) → StateInvariant p
      → IsBegin call from (q p.tree) (opening_in p.journal) (entries_in p.journal)

pub begins_top : Begins begin_top origin.Top begin_top_refusal
begins_top = record {
  at = λ p k.
      let refused = top_is p.tree _ k.state.actions (kept_orderly k) in
      record { refused = refused; begins = refl; happens = λ n. refl; declares = λ n. refl };
}

pub begins_sub : (parent : ℕ) → Begins (begin_sub parent) (origin.Sub parent) (λ t. begin_sub_refusal t parent)
begins_sub parent = record {
  at = λ p k.
      let refused = sub_is p.tree _ k.state.actions (kept_orderly k) parent in
      record { refused = refused; begins = refl; happens = λ n. refl; declares = λ n. refl };
}

pub begins_nested : (creator : ℕ)
    → Begins (begin_nested creator) (origin.Nested creator) (λ t. begin_nested_refusal t creator)
begins_nested creator = record {
  at = λ p k.
      let refused = nested_is p.tree _ k.state.actions (kept_orderly k) creator in
      record { refused = refused; begins = refl; happens = λ n. refl; declares = λ n. refl };
}

module _ (p : GuardianState) (k : StateInvariant p) where
  -- the room of the tree is no matter
  pub keeps_with : (t : Tree) → SameActions p.tree t
      → StateRefinesJournal t p.objects.items p.holdings (opening_in p.journal) (entries_in p.journal)
  keeps_with t same = grind (arith, nat_tests, parts_room)

  -- what ended actions hold can be discarded
  pub can_sweep : AreLinked p.tree.folded p.tree.rows → CanSweep p.tree p.objects.items p.holdings
  can_sweep linked = record {
    linked = linked;
    lawful = λ o d low. (k.state.each o d low).lawful;
    there = k.state.there;
    covered = grind (arith, nat_tests, parts_cover _ _ _ _ _ k.state);
  }

  module _ {call : PlainCall} {from : act_origin.Origin} {q : Tree → Option ActionRefusal}
      (b : Begins call from q) where
    -- what the tree refuses is refused
    pub begin_refused : (why : ActionRefusal) → q p.tree ≡ Some why
        → reply_to (journal_view_of p) call ≡ refused (journal_refusal why)
    begin_refused why is = grind (arith, nat_tests)

  -- where the journal says the same as it did in an old state, in which the tree didn't refuse the call
  module _ (old : GuardianState) (kept : StateInvariant old) (same : journal_view_of p ≡ journal_view_of old)
      {call : PlainCall} {from : act_origin.Origin} {q : Tree → Option ActionRefusal} (b : Begins call from q)
      (free : q old.tree ≡ None) where
    -- it doesn't refuse it
    pub begin_free : q p.tree ≡ None
    begin_free = grind (arith, nat_tests)

    -- the answer is the next number, and the action begins
    module _ (a : ActionId) (number : a.0 ≡ next p.tree) where
      pub begin_right : begun a.0 ≡ reply_to (journal_view_of p) call
      begin_right = begun_right _ _ _ _ _ k _ _ _ (b.at p k) begin_free a.0 number

      pub begin_kept : (t : Tree) → t ≡ after_begin p.tree from
          → StateRefinesJournal t p.objects.items p.holdings (opening_in p.journal)
          (entry_with call (begun a.0) ∷ entries_in p.journal)
      begin_kept t is = kept_begun _ _ _ _ _ k _ _ _ (b.at p k) begin_free a.0 number t is
