-- Tests of locks, as the guardian refuses and grants them.
use Rattle.std.proofs.Common.{Bool, List, None, Option, [], ap, arith, inl, inr, length, refl, sym, true, ℕ, ◌+◌, ◌<◌}
use Rattle.std.proofs.{Common.{◌∙◌, ◌∷◌, ◌≡◌}, lemmas.Bool.{cases_lt, le-ltb, Decides.nat_tests}}
use Rattle.std.{proofs.lemmas.Option.slice_get-get_or, specs.Prelude.{slice_get, slice_index_or}}
use Rattle.argus_actions.specs.declared.action_id.ActionId.{ActionId}
use Rattle.argus_contents.specs.{Answer.flag, Shape.PlainShape, declared.obj_id.ObjId.ObjId}
use Rattle.argus_entries.specs.{Call.{PlainCall, test_read, test_write}, Reply.answered}
use Rattle.argus_entries.specs.declared.refusal.Refusal.{Refusal, TheVariants.{Conflict, IllTyped, NoObject}}
use Rattle.argus_core.specs.{Accessing.{IsFree, access_refusal}, GuardianState.{StateInvariant, journal_view_of}}
use Rattle.argus_core.specs.declared.engine.atomic_object.AtomicObject.{AtomicObject}
use Rattle.argus_core.{specs.declared.engine.guardian_state.GuardianState.GuardianState, proofs.Accesses.IsAccess}
use Rattle.argus_core.proofs.Accesses.{access_free, access_granted, access_is, acts, granted_to, history_of}
use Rattle.argus_core.proofs.{Accesses.{reads_agree, shapes_of, writes_agree}, Ends.some_object}
use Rattle.argus_journal.specs.{Answers.{if_declared, if_free, suits, unless}, Entries.entries, JournalView.JournalView}
use Rattle.argus_journal.specs.JournalView.{refusal_to, reply_to}
use Rattle.argus_model.specs.Status.{is_live}
use Rattle.argus_objects.specs.{Object.Object, Rules.{may_read, may_write}}
use Rattle.argus_model.specs.Holders as model

-- a shape that is there suits where all shapes do
all_suit : (xs : List PlainShape) (o : ℕ) → if_declared xs o
    (unless (suits (λ shape. true) (slice_get xs o)) IllTyped (unless true Conflict None)) ≡ if_declared xs o None
all_suit xs o =
    elim (cases_lt o (length xs)) [
      | inl lt ↦ ap (λ q. if_declared xs o (unless (suits (λ shape. true) q) IllTyped None))
          (slice_get-get_or xs o (some_shape xs o lt) lt)
      | inr ge ↦
          ap (λ b. unless b NoObject (unless (suits (λ shape. true) (slice_get xs o)) IllTyped None))
          (le-ltb o (length xs) ge)
          ∙ sym (ap (λ b. unless b NoObject None) (le-ltb o (length xs) ge))
    ]
  where
    some_shape : (xs : List PlainShape) (o : ℕ) → o < length xs → PlainShape
    some_shape [] o lt = absurd (omega arith)
    some_shape (x ∷ xs) o lt = x

-- why a test by a at o is refused, if it is: it needs no shape, and no lock
abbrev pub refused_test : GuardianState → ActionId → ObjId → Option Refusal
refused_test p a o = access_refusal p.tree p.objects.items a.0 o.0 (λ shape. true) (λ c. true)

-- a call of a at o that is refused as a test, and else answered by whether the lock is free
pub record IsTest (p : GuardianState) (a : ActionId) (o : ObjId) (call : PlainCall)
    (free : Object → Bool) : Type 0 where
  pub kept : StateInvariant p
  pub lock : Bool
  pub refuses : refusal_to (journal_view_of p) call ≡ if_free (history_of p) a.0 (if_declared (shapes_of p) o.0 None)
  pub grants : granted_to p call ≡ answered (flag lock)
  pub agrees : is_live (history_of p) (a.0 + 1) ≡ true → (d : AtomicObject) → o.0 < length p.objects.items
      → free (slice_index_or p.objects.items o.0 d).cell ≡ lock

module _ (p : GuardianState) (k : StateInvariant p) (a : ActionId) (o : ObjId) where
  pub reads : IsTest p a o (test_read a.0 o.0) (λ c. may_read p.tree c a)
  reads = record {
    kept = k;
    lock = model.may_read entries (history_of p) (a.0 + 1) o.0;
    refuses = refl;
    grants = refl;
    agrees = reads_agree _ _ _ _ _ k a o.0;
  }

  pub writes : IsTest p a o (test_write a.0 o.0) (λ c. may_write p.tree c a)
  writes = record {
    kept = k;
    lock = model.may_write entries (history_of p) (a.0 + 1) o.0;
    refuses = refl;
    grants = refl;
    agrees = writes_agree _ _ _ _ _ k a o.0;
  }

module _ {p : GuardianState} {a : ActionId} {o : ObjId} {call : PlainCall} {free : Object → Bool}
    (test : IsTest p a o call free) where
  -- it is an access for which each shape and each lock will do
  pub tests : IsAccess p a o call (λ shape. true) (λ c. true)
  tests =
      let is = access_is _ _ _ _ _ test.kept a o.0 (λ shape. true) (λ c. true) true (λ la d lt. refl) in
      let all = all_suit (shapes_of p) o.0 in
      grind (arith, nat_tests, is, all)

  module _ (e : refused_test p a o ≡ None) where
    -- the object is there
    pub test_low : o.0 < length p.objects.items
    test_low = (access_free tests e).low

    -- what the cell says of the lock is what the history says
    pub test_lock : (d : AtomicObject) → free (slice_index_or p.objects.items o.0 d).cell ≡ test.lock
    test_lock d = grind (arith, nat_tests, access_free tests e, acts _ _ _ _ _ test.kept a o.0)

    -- and is the answer
    pub test_right : (b : Bool) → ((d : AtomicObject) → b ≡ free (slice_index_or p.objects.items o.0 d).cell)
        → answered (flag b) ≡ reply_to (journal_view_of p) call
    test_right b f =
        let d : AtomicObject = some_object p.objects.items o.0 test_low in
        ap (λ b. answered (flag b)) (f d ∙ test_lock d) ∙ sym test.grants ∙ sym (access_granted tests e)

    -- also where a journal says the same
    pub test_still : (b : Bool) → ((d : AtomicObject) → b ≡ free (slice_index_or p.objects.items o.0 d).cell)
        → (new : GuardianState) → journal_view_of new ≡ journal_view_of p
        → answered (flag b) ≡ reply_to (journal_view_of new) call
    test_still b f new same = test_right b f ∙ ap (λ (x : JournalView). reply_to x call) (sym same)

    -- a lock that is free, of an action that may act, at an object that is there
    pub test_free : ((d : AtomicObject) → free (slice_index_or p.objects.items o.0 d).cell ≡ true)
        → IsFree p.tree p.objects.items a o free
    test_free f = record { accepted = (access_free tests e).accepted; low = test_low; opens = f }
