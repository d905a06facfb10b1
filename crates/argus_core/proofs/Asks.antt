-- Queries, as the guardian refuses and grants them.
use Rattle.std.proofs.{Common.{List, None, ap, refl, sym, ◌∙◌, ◌∷◌, ◌≡◌, arith}, lemmas.Bool.Decides.nat_tests}
use Rattle.argus_actions.specs.declared.action_id.ActionId.{ActionId}
use Rattle.argus_contents.specs.{Fitting.query_suits, Query.reply, Answer.PlainAnswer, declared.obj_id.ObjId.ObjId}
use Rattle.argus_contents.specs.declared.query.Query.{Query}
use Rattle.argus_entries.specs.{Call.ask, Reply.answered}
use Rattle.argus_core.specs.{Accessing.{CanAsk, IsAccessed, IsFree, seen_at}, Moving.IsRead}
use Rattle.argus_core.specs.{StateRefinement.StateRefinesJournal, GuardianState.{StateInvariant, journal_view_of}}
use Rattle.argus_core.specs.declared.engine.atomic_object.AtomicObject.{AtomicObject}
use Rattle.argus_core.{specs.declared.engine.guardian_state.GuardianState.GuardianState, proofs.Accesses.IsAccess}
use Rattle.argus_core.proofs.Accesses.{access_free, access_granted, access_is, acts, reads_agree, seen_is}
use Rattle.argus_core.proofs.{Ends.some_object, FreeLocks.can_ask, MadeAccesses.made_read}
use Rattle.argus_journal.specs.{JournalView.{entry_with, refusal_to, reply_to}, LegalJournal.{entries_in, opening_in}}
use Rattle.argus_objects.specs.{Rules.may_read, declared.holdings.Holdings.Holdings}

module _ (p : GuardianState) (k : StateInvariant p) (a : ActionId) (o : ObjId) (query : Query) where
  pub asks : IsAccess p a o (ask a.0 o.0 query) (λ shape. query_suits shape query) (λ c. may_read p.tree c a)
  asks =
      let is = access_is _ _ _ _ _ k a o.0 (λ shape. query_suits shape query) (λ c. may_read p.tree c a) in
      let agree = reads_agree _ _ _ _ _ k a o.0 in
      grind (arith, nat_tests, is, agree)

  module _ (granted : refusal_to (journal_view_of p) (ask a.0 o.0 query) ≡ None) where
    pub ask_free : IsFree p.tree p.objects.items a o (λ c. may_read p.tree c a)
    ask_free = access_free asks (asks.refuses ∙ granted)

    pub ask_ready : CanAsk p.tree p.objects.items a o
    ask_ready = can_ask p k a o ask_free

    -- what was read at any object is the answer
    pub ask_told : (x : PlainAnswer) → ((d : AtomicObject) → x ≡ reply query (seen_at p.tree a p.objects.items o.0 d))
        → answered x ≡ reply_to (journal_view_of p) (ask a.0 o.0 query)
    ask_told x f =
        let s = opening_in p.journal in
        let j = entries_in p.journal in
        let d : AtomicObject = some_object p.objects.items o.0 ask_free.low in
        ap answered (f d ∙ ap (reply query) (seen_is _ _ _ _ _ k a o.0
        (acts _ _ _ _ _ k a o.0 ask_free.accepted) d ask_free.low (ask_free.opens d)))
        ∙ sym (access_granted asks (asks.refuses ∙ granted))

    -- and once the action is a reader, the parts are what the journal says that has the entry
    pub ask_made : (x : PlainAnswer) → ((d : AtomicObject) → x ≡ reply query (seen_at p.tree a p.objects.items o.0 d))
        → (objects' : List AtomicObject) (holdings' : Holdings)
        → IsAccessed (IsRead p.tree a) a o p.objects.items objects' p.holdings holdings'
        → StateRefinesJournal p.tree objects' holdings' (opening_in p.journal)
        (entry_with (ask a.0 o.0 query) (answered x) ∷ entries_in p.journal)
    ask_made x f objects' holdings' moved =
        made_read p (entry_with (ask a.0 o.0 query) (answered x)) a o k _ _ (ask_told x f) ask_free
        (record { event = refl; object = refl; write = refl }) moved
