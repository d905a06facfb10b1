-- The journal refuses the test likewise, or says no with nothing changed, or yes with the lock taken.
use Rattle.std.proofs.{Common.{arith, false, refl, sym, true, ◌∙◌}, lemmas.List.with_items_is}
use Rattle.argus_contents.specs.{Answer.flag, Change.touch}
use Rattle.argus_entries.specs.{Call.test_write, Reply.answered}
use Rattle.argus_core.proofs.{Accessed.kept_locks, Accesses.access_refused, FreeLocks.can_alter}
use Rattle.argus_core.proofs.{MadeAccesses.made_change, Tests.{test_free, test_low, test_right, tests, writes}}
use Rattle.argus_journal.specs.JournalView.{entry_with}
use Rattle.argus_core.proofs.engine.writing.test_write.Goals as goal

pub refuse-requires-clause-right : goal.refuse-requires-clause-right
refuse-requires-clause-right c =
    access_refused (tests (writes c.args.state.now c.requires c.args.a c.args.o)) c.in-Some.why
    (sym (rw (c.as_slice.ensures.value) at c.test_refusal.ensures) ∙ c.in-Some.is)

pub is_writable-requires-clause-low : goal.is_writable-requires-clause-low
is_writable-requires-clause-low c =
    rw (c.as_slice-2.ensures.value) (test_low (writes c.args.state.now c.requires c.args.a c.args.o)
    (sym (rw (c.as_slice.ensures.value) at c.test_refusal.ensures) ∙ c.in-None.is))

pub push-requires-clause-answered : goal.push-requires-clause-answered
push-requires-clause-answered c =
    rw (c.reserve.ensures.entries, c.reserve.ensures.opening)
    (test_right (writes c.args.state.now c.requires c.args.a c.args.o)
    (sym (rw (c.as_slice.ensures.value) at c.test_refusal.ensures) ∙ c.in-None.is) false
    (λ d. sym c.if-not-is_writable.true ∙ (rw (c.as_slice-2.ensures.value) at c.is_writable.ensures) d))

pub grant_change-requires-clause-ready : goal.grant_change-requires-clause-ready
grant_change-requires-clause-ready c =
    rw (c.as_mut_slice-objects.ensures.value)
    (can_alter c.args.state.now c.requires c.args.a c.args.o
    (test_free (writes c.args.state.now c.requires c.args.a c.args.o)
    (sym (rw (c.as_slice.ensures.value) at c.test_refusal.ensures) ∙ c.in-None.is)
    (λ d. sym (sym c.if-not-is_writable.false ∙ (rw (c.as_slice-2.ensures.value) at c.is_writable.ensures) d))))

pub returns-in_err-grant_change-clause-kept : goal.returns-in_err-grant_change-clause-kept
returns-in_err-grant_change-clause-kept c =
    rw (with_items_is c.args.state.now.objects c.grant_change.new.objects (omega arith), c.reserve-2.ensures.entries)
    (rw (c.reserve-2.ensures.opening)
    (kept_locks _ _ _ _ _ _ _ _ c.requires
    (rw (c.as_mut_slice-objects.ensures.value) at c.in_err-grant_change.ensures.err)))

pub push-requires-2-clause-answered : goal.push-requires-2-clause-answered
push-requires-2-clause-answered c =
    rw (c.reserve-2.ensures.entries, c.reserve-2.ensures.opening)
    (test_right (writes c.args.state.now c.requires c.args.a c.args.o)
    (sym (rw (c.as_slice.ensures.value) at c.test_refusal.ensures) ∙ c.in-None.is) true
    (λ d. sym c.if-not-is_writable.false ∙ (rw (c.as_slice-2.ensures.value) at c.is_writable.ensures) d))

pub returns-clause-kept : goal.returns-clause-kept
returns-clause-kept c =
    let p = c.args.state.now in
    let call = test_write c.args.a.0 c.args.o.0 in
    rw (with_items_is p.objects c.grant_change.new.objects (omega arith), c.push-2.ensures.entries)
    (rw (c.push-2.ensures.opening)
    (rw (c.reserve-2.ensures.entries, c.reserve-2.ensures.opening)
    (made_change p (entry_with call (answered (flag true))) c.args.a c.args.o c.requires _ _ touch
    (test_right (writes c.args.state.now c.requires c.args.a c.args.o)
    (sym (rw (c.as_slice.ensures.value) at c.test_refusal.ensures) ∙ c.in-None.is) true
    (λ d. sym c.if-not-is_writable.false ∙ (rw (c.as_slice-2.ensures.value) at c.is_writable.ensures) d))
    (test_free (writes c.args.state.now c.requires c.args.a c.args.o)
    (sym (rw (c.as_slice.ensures.value) at c.test_refusal.ensures) ∙ c.in-None.is)
    (λ d. sym (sym c.if-not-is_writable.false ∙ (rw (c.as_slice-2.ensures.value) at c.is_writable.ensures) d)))
    (record { event = refl; object = refl; write = refl }) (λ seen. refl)
    (rw (c.as_mut_slice-objects.ensures.value) at c.in_ok-grant_change.ensures.ok))))
