-- The refusals of accesses are the journal's, and what is so where nothing refuses one.
use Rattle.std.proofs.Common.{Bool, List, None, Option, Some, ap, arith, get_or, inl, inr, length, refl, subst, sym}
use Rattle.std.proofs.{Common.{true, ℕ, ◌+◌, ◌<◌, ◌≤◌, ◌∙◌, ◌≡◌}, lemmas.Bool.{cases_lt, Decides.nat_tests}}
use Rattle.std.proofs.lemmas.{List.length-map, Option.{slice_get-get_or, slice_get-map, slice_get_within}}
use Rattle.std.specs.{Option.option_or, Prelude.{slice_get, slice_index_or}}
use Rattle.argus_actions.specs.{Refusals.commit_refusal, Tree.Tree, declared.action_id.ActionId.ActionId}
use Rattle.argus_actions.specs.declared.action_refusal.ActionRefusal.{ActionRefusal}
use Rattle.argus_contents.specs.{Content.KeepsLimits, Shape.PlainShape, declared.obj_id.ObjId.ObjId}
use Rattle.argus_entries.specs.{Call.PlainCall, Entry.PlainEntry, Reply.{PlainReply, refused}}
use Rattle.argus_entries.specs.declared.refusal.Refusal.{Refusal, TheVariants.{Conflict, IllTyped}}
use Rattle.argus_core.specs.{Accessing.{IsFree, access_refusal, refused_at, seen_at}, GuardianState.journal_view_of}
use Rattle.argus_core.specs.StateRefinement.{StateRefinesJournal}
use Rattle.argus_core.specs.declared.engine.atomic_object.AtomicObject.{AtomicObject}
use Rattle.argus_core.{specs.declared.engine.guardian_state.GuardianState.GuardianState, proofs.Ends.commit_refused}
use Rattle.argus_core.proofs.Ends.{some_object}
use Rattle.argus_journal.specs.{Answers.{granted, if_declared, if_free, or_refused, suits, unless}, Entries.entries}
use Rattle.argus_journal.specs.{Events.history, JournalView.{refusal_to, reply_to}, Opening.{Opening, model_opening}}
use Rattle.argus_journal.specs.{LegalJournal.{entries_in, opening_in}, Objects.{declared, shape_of, shapes}}
use Rattle.argus_journal.proofs.{Contents.content_fits, Fitting.fits_keeps, Legal.{free_none, lawful}}
use Rattle.argus_refinement.{specs.TreeRefinement.journal_refusal_if_any, proofs.CellHolders.may_read_is}
use Rattle.argus_refinement.proofs.{CellSeen.{may_write_is, visible_is}, TreeRefusals.free_rest}
use Rattle.argus_model.specs.{Contents.sees, History.History, Owner.{counts_for, owner}, Status.is_live}
use Rattle.argus_objects.specs.{Object.Object, declared.holdings.Holdings.Holdings}
use Rattle.argus_model.specs.Holders as model
use Rattle.argus_objects.specs.Rules as cell

-- the object that was found is the one of its place
found_at : (objects : List AtomicObject) (o : ℕ) (x : AtomicObject) (d : AtomicObject) → slice_get objects o ≡ Some x
    → x ≡ slice_index_or objects o d
found_at objects o x d e = grind (arith, nat_tests, slice_get-get_or, slice_get_within)

none_past : (objects : List AtomicObject) (o : ℕ) → slice_get objects o ≡ None → length objects ≤ o
none_past objects o e =
    elim (cases_lt o (length objects)) [
      | inl lt ↦
          let d : AtomicObject = some_object objects o lt in
          let n : Option AtomicObject = None in
          let k : n ≡ Some (get_or objects o d) = sym e ∙ slice_get-get_or objects o d lt in cc
      | inr past ↦ past
    ]

-- nothing refuses the access: the action may act, the object is there, its shape suits and its lock is free
pub record IsGranted (t : Tree) (objects : List AtomicObject) (a o : ℕ) (fits : PlainShape → Bool)
    (opens : Object → Bool) : Type 0 where
  pub accepted : commit_refusal t a ≡ None
  pub low : o < length objects
  pub suits : (d : AtomicObject) → fits (slice_index_or objects o d).shape ≡ true
  pub free : (d : AtomicObject) → opens (slice_index_or objects o d).cell ≡ true

pub granted_parts : (t : Tree) (objects : List AtomicObject) (a o : ℕ) (fits : PlainShape → Bool) (free : Object → Bool)
    → access_refusal t objects a o fits free ≡ None → IsGranted t objects a o fits free
granted_parts t objects a o fits free e = grind (arith, nat_tests, slice_get_within, found_at)

module _ (t : Tree) (objects : List AtomicObject) (holdings : Holdings) (s : Opening) (j : List PlainEntry)
    (k : StateRefinesJournal t objects holdings s j) (a : ActionId) (o : ℕ) where
  abbrev h : History PlainEntry
  h = history s j

  pub count : length (shapes s j) ≡ length objects
  count = ap (λ xs. length xs) (sym k.shapes) ∙ length-map objects (λ (k : AtomicObject). k.shape)

  pub acts : commit_refusal t a.0 ≡ None → is_live (history s j) (a.0 + 1) ≡ true
  acts free = (free_none h a.0 None (sym (commit_refused _ _ _ _ _ k a)
      ∙ ap journal_refusal_if_any free)).live

  -- the lock's test agrees with the history's, at the object that is there
  module _ (fits : PlainShape → Bool) (free : Object → Bool) (lock : Bool)
      (agree : is_live (history s j) (a.0 + 1) ≡ true → (d : AtomicObject) → o < length objects
      → free (slice_index_or objects o d).cell ≡ lock) where
    abbrev rest : Option Refusal
    rest = if_declared (shapes s j) o (unless (suits fits (slice_get (shapes s j) o)) IllTyped
        (unless lock Conflict None))

    at_object : is_live h (a.0 + 1) ≡ true → (x : Option AtomicObject) → slice_get objects o ≡ x
        → refused_at x fits free ≡ rest
    at_object la None e = grind (arith, nat_tests, none_past objects o e, count)
    at_object la (Some x) e =
        let lt = slice_get_within objects o x e in
        let shape_is = slice_get-map (λ (k : AtomicObject). k.shape) objects o in
        let found = found_at objects o x x e in
        grind (arith, nat_tests, lt, count, shape_is, found)

    pub access_is : access_refusal t objects a.0 o fits free
        ≡ if_free (history s j) a.0 (if_declared (shapes s j) o
        (unless (suits fits (slice_get (shapes s j) o)) IllTyped (unless lock Conflict None)))
    access_is =
        at (commit_refusal t a.0) refl
        ∙ ap (λ q. option_or q rest) (commit_refused _ _ _ _ _ k a)
        ∙ sym (free_rest h a.0 rest)
      where
        at : (q : Option ActionRefusal) → commit_refusal t a.0 ≡ q
            → option_or (journal_refusal_if_any q) (refused_at (slice_get objects o) fits free)
            ≡ option_or (journal_refusal_if_any q) rest
        at None e = at_object (acts e) (slice_get objects o) refl
        at (Some why) e = refl

  pub reads_agree : is_live (history s j) (a.0 + 1) ≡ true → (d : AtomicObject) → o < length objects
      → cell.may_read t (slice_index_or objects o d).cell a ≡ model.may_read entries (history s j) (a.0 + 1) o
  reads_agree la d lt = grind (arith, nat_tests, may_read_is, lawful)

  pub writes_agree : is_live (history s j) (a.0 + 1) ≡ true → (d : AtomicObject) → o < length objects
      → cell.may_write t (slice_index_or objects o d).cell a ≡ model.may_write entries (history s j) (a.0 + 1) o
  writes_agree la d lt = grind (arith, nat_tests, may_write_is, lawful)

  pub seen_is : is_live (history s j) (a.0 + 1) ≡ true → (d : AtomicObject) → o < length objects
      → cell.may_read t (slice_index_or objects o d).cell a ≡ true
      → seen_at t a objects o d ≡ sees entries (model_opening s) (history s j) (a.0 + 1) o
  seen_is la d lt may = grind (arith, nat_tests, visible_is, lawful)

  seen_keeps : KeepsLimits (sees entries (model_opening s) (history s j) (a.0 + 1) o)
  seen_keeps =
      fits_keeps (shape_of s j o) (declared s j) (sees entries (model_opening s) (history s j) (a.0 + 1) o)
      (content_fits (λ b. counts_for h (a.0 + 1) (owner h b)) s j o k.sound k.legal)

  pub seen_limits : is_live (history s j) (a.0 + 1) ≡ true → (d : AtomicObject) → o < length objects
      → cell.may_read t (slice_index_or objects o d).cell a ≡ true → KeepsLimits (seen_at t a objects o d)
  seen_limits la d lt may = subst KeepsLimits (sym (seen_is la d lt may)) seen_keeps

-- what a guardian's journal says happened, which objects it declares, and what it grants a call
abbrev pub history_of : GuardianState → History PlainEntry
history_of p = history (opening_in p.journal) (entries_in p.journal)

abbrev pub shapes_of : GuardianState → List PlainShape
shapes_of p = shapes (opening_in p.journal) (entries_in p.journal)

abbrev pub granted_to : GuardianState → PlainCall → PlainReply
granted_to p call = granted (opening_in p.journal) (history_of p) (shapes_of p) call

-- a call of a at o that is refused as an access which needs a shape that fits, and this lock
pub record IsAccess (p : GuardianState) (a : ActionId) (o : ObjId) (call : PlainCall) (fits : PlainShape → Bool)
    (free : Object → Bool) : Type 0 where
  pub refuses : access_refusal p.tree p.objects.items a.0 o.0 fits free ≡ refusal_to (journal_view_of p) call

module _ {p : GuardianState} {a : ActionId} {o : ObjId} {call : PlainCall} {fits : PlainShape → Bool}
    {free : Object → Bool} (access : IsAccess p a o call fits free) where
  -- what is refused as an access is refused
  pub access_refused : (why : Refusal) → access_refusal p.tree p.objects.items a.0 o.0 fits free ≡ Some why
      → reply_to (journal_view_of p) call ≡ refused why
  access_refused why e = ap (λ r. or_refused r (granted_to p call)) (sym access.refuses ∙ e)

  module _ (e : access_refusal p.tree p.objects.items a.0 o.0 fits free ≡ None) where
    -- what isn't is granted
    pub access_granted : reply_to (journal_view_of p) call ≡ granted_to p call
    access_granted = ap (λ r. or_refused r (granted_to p call)) (sym access.refuses ∙ e)

    -- and then the action may act, the object is there, and its lock is free
    pub access_free : IsFree p.tree p.objects.items a o free
    access_free = grind (arith, nat_tests, granted_parts)
