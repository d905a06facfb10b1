-- A granted change is answered at what the action sees, as the journal answers it, and then made.
use Rattle.std.proofs.{Common.{None, arith, length, ◌∙◌, ◌≡◌}, lemmas.List.with_items_is}
use Rattle.argus_actions.specs.declared.action_id.ActionId.{ActionId}
use Rattle.argus_contents.specs.{Change.{PlainChange, plain_change}, Fitting.change_suits, declared.obj_id.ObjId.ObjId}
use Rattle.argus_entries.specs.Call.{alter}
use Rattle.argus_core.specs.{Accessing.access_refusal, GuardianState.{StateInvariant, journal_view_of}}
use Rattle.argus_core.{specs.declared.engine.guardian_state.GuardianState.GuardianState, proofs.Accessed.kept_locks}
use Rattle.argus_core.proofs.Alters.{alter_made, alter_ready, alter_still, alters, removal_ready}
use Rattle.argus_journal.specs.{JournalView.refusal_to, LegalJournal.{entries_in, opening_in}}
use Rattle.argus_objects.specs.Rules.{may_write}
use Rattle.argus_core.proofs.engine.writing.alter_with_value.Goals as goal

-- what the journal doesn't refuse isn't refused
refused_not : (p : GuardianState) (k : StateInvariant p) (a : ActionId) (o : ObjId) (change : PlainChange)
    → refusal_to (journal_view_of p) (alter a.0 o.0 change) ≡ None
    → access_refusal p.tree p.objects.items a.0 o.0 (λ shape. change_suits shape (length p.objects.items) change)
    (λ c. may_write p.tree c a) ≡ None
refused_not p k a o change free = (alters p k a o change).refuses ∙ free

pub answer_of_removal-requires-clause-ready : goal.answer_of_removal-requires-clause-ready
answer_of_removal-requires-clause-ready c =
    rw (c.as_slice-seen.ensures.value)
    (removal_ready c.args.state.now c.requires.kept c.args.a c.args.o (plain_change c.args.change)
    (refused_not c.args.state.now c.requires.kept c.args.a c.args.o (plain_change c.args.change) c.requires.free))

pub grant_removal-requires : goal.grant_removal-requires
grant_removal-requires c =
    rw (c.as_mut_slice-objects.ensures.value)
    (alter_ready c.args.state.now c.requires.kept c.args.a c.args.o (plain_change c.args.change)
    (refused_not c.args.state.now c.requires.kept c.args.a c.args.o (plain_change c.args.change) c.requires.free))

pub returns-in_err-grant_removal-clause-kept : goal.returns-in_err-grant_removal-clause-kept
returns-in_err-grant_removal-clause-kept c =
    rw (with_items_is c.args.state.now.objects c.grant_removal.new.objects (omega arith), c.reserve.ensures.entries)
    (rw (c.reserve.ensures.opening)
    (kept_locks _ _ _ _ _ _ _ _ c.requires.kept
    (rw (c.as_mut_slice-objects.ensures.value) at c.in_err-grant_removal.ensures.err)))

pub push-requires-clause-answered : goal.push-requires-clause-answered
push-requires-clause-answered c =
    c.in_ok-reply.ensures.second
    ∙ alter_still c.args.state.now c.requires.kept c.args.a c.args.o (plain_change c.args.change)
    (refused_not c.args.state.now c.requires.kept c.args.a c.args.o (plain_change c.args.change) c.requires.free) _
    (rw (c.as_slice-seen.ensures.value) at c.in_ok-answer.ensures)
    (opening_in c.reserve.new.self) (entries_in c.reserve.new.self) c.reserve.ensures.opening c.reserve.ensures.entries

pub returns-clause-kept : goal.returns-clause-kept
returns-clause-kept c =
    let p = c.args.state.now in
    let new = c.grant_removal.new.objects in
    rw (with_items_is p.objects new (omega arith), c.push.ensures.entries, c.push.ensures.opening)
    (rw (c.reserve.ensures.entries)
    (rw (c.reserve.ensures.opening, c.in_ok-reply.ensures.second)
    (alter_made p c.requires.kept c.args.a c.args.o (plain_change c.args.change)
    (refused_not c.args.state.now c.requires.kept c.args.a c.args.o (plain_change c.args.change) c.requires.free) _
    (rw (c.as_slice-seen.ensures.value) at c.in_ok-answer.ensures) new c.grant_removal.new.holdings
    (rw (c.as_mut_slice-objects.ensures.value) at c.in_ok-grant_removal.ensures.ok))))
