-- Changes, as the guardian refuses and grants them.
use Rattle.std.proofs.Common.{List, None, ap, length, refl, sym, ◌∙◌, ◌∷◌, ◌≡◌, arith, Bool}
use Rattle.std.proofs.lemmas.Bool.Decides.{nat_tests}
use Rattle.argus_actions.specs.declared.action_id.ActionId.{ActionId}
use Rattle.argus_contents.specs.{Fitting.change_suits, Change.{PlainChange, outcome}, Answer.PlainAnswer}
use Rattle.argus_contents.specs.{declared.obj_id.ObjId.ObjId, Shape.PlainShape}
use Rattle.argus_entries.specs.{Call.alter, Entry.PlainEntry, Reply.answered}
use Rattle.argus_core.specs.Accessing.{CanAlter, CanAsk, IsAccessed, IsAltered, IsFree, access_refusal, seen_at}
use Rattle.argus_core.specs.{StateRefinement.StateRefinesJournal, GuardianState.{StateInvariant, journal_view_of}}
use Rattle.argus_core.specs.declared.engine.atomic_object.AtomicObject.{AtomicObject}
use Rattle.argus_core.{specs.declared.engine.guardian_state.GuardianState.GuardianState, proofs.Accesses.IsAccess}
use Rattle.argus_core.proofs.Accesses.{access_free, access_granted, access_is, acts, count, seen_is, writes_agree}
use Rattle.argus_core.proofs.{Ends.some_object, FreeLocks.{can_alter, can_ask, writer_reads}, MadeAccesses.made_change}
use Rattle.argus_journal.specs.{JournalView.{entry_with, reply_to}, LegalJournal.{entries_in, opening_in}}
use Rattle.argus_journal.specs.Opening.{Opening}
use Rattle.argus_objects.specs.{Rules.{may_read, may_write}, declared.holdings.Holdings.Holdings}

module _ (p : GuardianState) (k : StateInvariant p) (a : ActionId) (o : ObjId) (change : PlainChange) where
  pub alters : IsAccess p a o (alter a.0 o.0 change) (λ shape. change_suits shape (length p.objects.items) change)
      (λ c. may_write p.tree c a)
  alters =
      let fits : PlainShape → Bool = λ shape. change_suits shape (length p.objects.items) change in
      let is = access_is _ _ _ _ _ k a o.0 fits (λ c. may_write p.tree c a) in
      let agree = writes_agree _ _ _ _ _ k a o.0 in
      let many = count _ _ _ _ _ k a o.0 in
      grind (arith, nat_tests, is, agree, many)

  module _ (e : access_refusal p.tree p.objects.items a.0 o.0
      (λ shape. change_suits shape (length p.objects.items) change) (λ c. may_write p.tree c a) ≡ None) where
    pub alter_free : IsFree p.tree p.objects.items a o (λ c. may_write p.tree c a)
    alter_free = access_free alters e

    alter_reads : IsFree p.tree p.objects.items a o (λ c. may_read p.tree c a)
    alter_reads = writer_reads p k a o alter_free

    pub alter_ready : CanAlter p.tree p.objects.items p.holdings a o
    alter_ready = can_alter p k a o alter_free

    pub removal_ready : CanAsk p.tree p.objects.items a o
    removal_ready = can_ask p k a o alter_reads

    -- what was read at any object is the answer
    pub alter_told : (x : PlainAnswer)
        → ((d : AtomicObject) → x ≡ (outcome change (seen_at p.tree a p.objects.items o.0 d)).1)
        → answered x ≡ reply_to (journal_view_of p) (alter a.0 o.0 change)
    alter_told x f =
        let s = opening_in p.journal in
        let j = entries_in p.journal in
        let d : AtomicObject = some_object p.objects.items o.0 alter_free.low in
        ap answered (f d ∙ ap (λ c. (outcome change c).1) (seen_is _ _ _ _ _ k a o.0
        (acts _ _ _ _ _ k a o.0 alter_free.accepted) d alter_free.low
        (alter_reads.opens d)))
        ∙ sym (access_granted alters e)

    -- also where a journal says the same
    pub alter_still : (x : PlainAnswer)
        → ((d : AtomicObject) → x ≡ (outcome change (seen_at p.tree a p.objects.items o.0 d)).1)
        → (s : Opening) (j : List PlainEntry) → s ≡ opening_in p.journal → j ≡ entries_in p.journal
        → answered x ≡ reply_to (record { opening = s; entries = j }) (alter a.0 o.0 change)
    alter_still x f s j same_opening same_entries = rw (same_opening, same_entries) (alter_told x f)

    -- and once it is made, the parts are what the journal says that has the entry
    pub alter_made : (x : PlainAnswer)
        → ((d : AtomicObject) → x ≡ (outcome change (seen_at p.tree a p.objects.items o.0 d)).1)
        → (objects' : List AtomicObject) (holdings' : Holdings)
        → IsAccessed (IsAltered p.tree a change) a o p.objects.items objects' p.holdings holdings'
        → StateRefinesJournal p.tree objects' holdings' (opening_in p.journal)
        (entry_with (alter a.0 o.0 change) (answered x) ∷ entries_in p.journal)
    alter_made x f objects' holdings' moved =
        made_change p (entry_with (alter a.0 o.0 change) (answered x)) a o k _ _ change
        (alter_told x f) alter_free (record { event = refl; object = refl; write = refl }) (λ seen. refl) moved
