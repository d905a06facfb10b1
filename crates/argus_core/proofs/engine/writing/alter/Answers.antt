-- A change is refused as the journal refuses it, or made where the journal grants it, with its answer.
use Rattle.std.proofs.{Common.{None, Some, ap, arith, sym, ◌∙◌}, lemmas.List.with_items_is}
use Rattle.argus_contents.specs.{Answer.done_or, Change.plain_change}
use Rattle.argus_core.proofs.{Accessed.kept_locks, Accesses.access_refused}
use Rattle.argus_core.proofs.Alters.{alter_made, alter_ready, alter_still, alters}
use Rattle.argus_journal.specs.LegalJournal.{entries_in, opening_in}
use Rattle.argus_core.proofs.engine.writing.alter.Goals as goal

pub refuse-requires-clause-right : goal.refuse-requires-clause-right
refuse-requires-clause-right c =
    access_refused (alters c.args.state.now c.requires c.args.a c.args.o (plain_change c.args.change)) c.in-Some.why
    (sym (rw (c.as_slice.ensures.value) at c.alter_refusal.ensures) ∙ c.in-Some.is)

pub alter_with_value-requires-clause-free : goal.alter_with_value-requires-clause-free
alter_with_value-requires-clause-free c =
    sym (alters c.args.state.now c.requires c.args.a c.args.o (plain_change c.args.change)).refuses
    ∙ (sym (rw (c.as_slice.ensures.value) at c.alter_refusal.ensures) ∙ c.in-None.is)

pub grant_change-requires-clause-ready : goal.grant_change-requires-clause-ready
grant_change-requires-clause-ready c =
    rw (c.as_mut_slice-objects.ensures.value)
    (alter_ready c.args.state.now c.requires c.args.a c.args.o (plain_change c.args.change)
    (sym (rw (c.as_slice.ensures.value) at c.alter_refusal.ensures) ∙ c.in-None.is))

pub returns-in_err-grant_change-clause-kept : goal.returns-in_err-grant_change-clause-kept
returns-in_err-grant_change-clause-kept c =
    rw (with_items_is c.args.state.now.objects c.grant_change.new.objects (omega arith), c.reserve.ensures.entries)
    (rw (c.reserve.ensures.opening)
    (kept_locks _ _ _ _ _ _ _ _ c.requires
    (rw (c.as_mut_slice-objects.ensures.value) at c.in_err-grant_change.ensures.err)))

pub push-requires-clause-answered : goal.push-requires-clause-answered
push-requires-clause-answered c =
    alter_still c.args.state.now c.requires c.args.a c.args.o (plain_change c.args.change)
    (sym (rw (c.as_slice.ensures.value) at c.alter_refusal.ensures) ∙ c.in-None.is) (done_or None)
    (λ d. ap done_or (sym c.in-None-2.is)
    ∙ (rw (c.as_mut_slice-objects.ensures.value) at c.in_ok-grant_change.ensures.answer) d)
    (opening_in c.reserve.new.self) (entries_in c.reserve.new.self) c.reserve.ensures.opening c.reserve.ensures.entries

pub push-requires-in-Some-2-clause-answered : goal.push-requires-in-Some-2-clause-answered
push-requires-in-Some-2-clause-answered c =
    alter_still c.args.state.now c.requires c.args.a c.args.o (plain_change c.args.change)
    (sym (rw (c.as_slice.ensures.value) at c.alter_refusal.ensures) ∙ c.in-None.is) (done_or (Some c.in-Some-2.signal))
    (λ d. ap done_or (sym c.in-Some-2.is)
    ∙ (rw (c.as_mut_slice-objects.ensures.value) at c.in_ok-grant_change.ensures.answer) d)
    (opening_in c.reserve.new.self) (entries_in c.reserve.new.self) c.reserve.ensures.opening c.reserve.ensures.entries

pub returns-in-None-2-clause-kept : goal.returns-in-None-2-clause-kept
returns-in-None-2-clause-kept c =
    let p = c.args.state.now in
    let new = c.grant_change.new.objects in
    rw (with_items_is p.objects new (omega arith), c.push.ensures.entries, c.push.ensures.opening)
    (rw (c.reserve.ensures.entries)
    (rw (c.reserve.ensures.opening)
    (alter_made p c.requires c.args.a c.args.o (plain_change c.args.change)
    (sym (rw (c.as_slice.ensures.value) at c.alter_refusal.ensures) ∙ c.in-None.is) (done_or None)
    (λ d. ap done_or (sym c.in-None-2.is)
    ∙ (rw (c.as_mut_slice-objects.ensures.value) at c.in_ok-grant_change.ensures.answer) d)
    new c.grant_change.new.holdings (rw (c.as_mut_slice-objects.ensures.value) at c.in_ok-grant_change.ensures.ok))))

pub returns-in-Some-2-clause-kept : goal.returns-in-Some-2-clause-kept
returns-in-Some-2-clause-kept c =
    let p = c.args.state.now in
    let new = c.grant_change.new.objects in
    rw (with_items_is p.objects new (omega arith), c.push-in-Some-2.ensures.entries, c.push-in-Some-2.ensures.opening)
    (rw (c.reserve.ensures.entries, c.reserve.ensures.opening)
    (alter_made p c.requires c.args.a c.args.o (plain_change c.args.change)
    (sym (rw (c.as_slice.ensures.value) at c.alter_refusal.ensures) ∙ c.in-None.is) (done_or (Some c.in-Some-2.signal))
    (λ d. ap done_or (sym c.in-Some-2.is)
    ∙ (rw (c.as_mut_slice-objects.ensures.value) at c.in_ok-grant_change.ensures.answer) d)
    new c.grant_change.new.holdings (rw (c.as_mut_slice-objects.ensures.value) at c.in_ok-grant_change.ensures.ok)))
