-- What a test that says yes tells of the lock, and what a free lock is good for.
use Rattle.std.proofs.Common.{Bool, None, Option, length, sym, true, ◌<◌, ◌∙◌, ◌≡◌, arith}
use Rattle.std.proofs.lemmas.Bool.Decides.{nat_tests}
use Rattle.argus_actions.specs.declared.action_id.ActionId.{ActionId}
use Rattle.argus_contents.specs.{Answer.{PlainAnswer, flag}, declared.obj_id.ObjId.ObjId}
use Rattle.argus_entries.specs.{Call.PlainCall, Reply.{PlainReply, answered}, declared.refusal.Refusal.Refusal}
use Rattle.argus_core.specs.{Accessing.{CanAlter, CanAsk, IsFree, IsListedIfHeld}, GuardianState.StateInvariant}
use Rattle.argus_core.specs.GuardianState.{journal_view_of}
use Rattle.argus_core.{specs.declared.engine.guardian_state.GuardianState.GuardianState, proofs.Accesses.acts}
use Rattle.argus_core.proofs.{Accesses.{granted_to, seen_limits}, EndedState.listed_if_held, Tests.{IsTest, test_free}}
use Rattle.argus_core.proofs.Tests.{test_lock, tests}
use Rattle.argus_journal.specs.{JournalView.{refusal_to, reply_to}, Answers.or_refused}
use Rattle.argus_objects.specs.{Object.Object, Rules.{may_read, may_write}}

-- what is answered isn't refused
record IsGrantedWith (q : Option Refusal) (r : PlainReply) (x : PlainAnswer) : Type 0 where
  pub free : q ≡ None
  pub reply : r ≡ answered x

not_refused : (q : Option Refusal) (r : PlainReply) (x : PlainAnswer) → or_refused q r ≡ answered x → IsGrantedWith q r
    x
not_refused q r x e = grind (arith, nat_tests)

same_flag : (b c : Bool) → answered (flag b) ≡ answered (flag c) → b ≡ c
same_flag b c e = cc

pub said_free : {p : GuardianState} {a : ActionId} {o : ObjId} {call : PlainCall} {free : Object → Bool}
    → IsTest p a o call free → reply_to (journal_view_of p) call ≡ answered (flag true)
    → IsFree p.tree p.objects.items a o free
said_free {p} {call = call} test says =
    let w = not_refused (refusal_to (journal_view_of p) call) (granted_to p call) (flag true) says in
    let e = (tests test).refuses ∙ w.free in
    test_free test e (λ d. test_lock test e d ∙ same_flag test.lock true (sym test.grants ∙ w.reply))

module _ (p : GuardianState) (k : StateInvariant p) (a : ActionId) (o : ObjId) where
  -- the action's list has the object exactly if the cell says that the action holds it
  pub listed_held : o.0 < length p.objects.items → IsListedIfHeld p.objects.items p.holdings a o
  listed_held low d = grind (arith, nat_tests, listed_if_held _ _ _ _ _ k.state a o.0 d low)

  -- what may be read may be asked, since what is seen keeps the limits
  pub can_ask : IsFree p.tree p.objects.items a o (λ cell. may_read p.tree cell a)
      → CanAsk p.tree p.objects.items a o
  can_ask f = record {
    free = f;
    limits = λ d.
        grind (
          arith,
          nat_tests,
          seen_limits _ _ _ _ _ k a o.0 (acts _ _ _ _ _ k a o.0 f.accepted) d f.low
              (f.opens d),
        );
  }

  module _ (f : IsFree p.tree p.objects.items a o (λ cell. may_write p.tree cell a)) where
    -- who may write may read
    pub writer_reads : IsFree p.tree p.objects.items a o (λ cell. may_read p.tree cell a)
    writer_reads = grind (arith, nat_tests)

    -- what may be written may be altered
    pub can_alter : CanAlter p.tree p.objects.items p.holdings a o
    can_alter = record {
      lawful = λ o d low. (k.state.each o d low).lawful;
      free = f;
      limits = (can_ask writer_reads).limits;
      listed = listed_held f.low;
    }
