-- The journal refuses the test likewise, or says no with nothing changed, or yes with the lock taken.
use Rattle.std.proofs.{Common.{arith, false, refl, sym, true, ◌∙◌}, lemmas.List.with_items_is}
use Rattle.argus_contents.specs.Answer.{flag}
use Rattle.argus_entries.specs.{Call.test_read, Reply.answered}
use Rattle.argus_journal.specs.JournalView.{entry_with}
use Rattle.argus_core.proofs.{Accesses.access_refused, FreeLocks.said_free, MadeAccesses.made_read, Tests.reads}
use Rattle.argus_core.proofs.Tests.{test_free, test_low, test_right, test_still, tests}
use Rattle.argus_core.proofs.engine.testing.test_read.Goals as goal

pub refuse-requires-clause-right : goal.refuse-requires-clause-right
refuse-requires-clause-right c =
    access_refused (tests (reads c.args.state.now c.requires c.args.a c.args.o)) c.in-Some.why
    (sym (rw (c.as_slice.ensures.value) at c.test_refusal.ensures) ∙ c.in-Some.is)

pub is_readable-requires-clause-low : goal.is_readable-requires-clause-low
is_readable-requires-clause-low c =
    rw (c.as_slice-2.ensures.value) (test_low (reads c.args.state.now c.requires c.args.a c.args.o)
    (sym (rw (c.as_slice.ensures.value) at c.test_refusal.ensures) ∙ c.in-None.is))

pub push-requires-clause-answered : goal.push-requires-clause-answered
push-requires-clause-answered c =
    rw (c.reserve.ensures.entries, c.reserve.ensures.opening)
    (test_right (reads c.args.state.now c.requires c.args.a c.args.o)
    (sym (rw (c.as_slice.ensures.value) at c.test_refusal.ensures) ∙ c.in-None.is) false
    (λ d. sym c.if-not-is_readable.true ∙ (rw (c.as_slice-2.ensures.value) at c.is_readable.ensures) d))

pub reserve_granted_read-requires-clause-free : goal.reserve_granted_read-requires-clause-free
reserve_granted_read-requires-clause-free c =
    test_free (reads c.args.state.now c.requires c.args.a c.args.o)
    (sym (rw (c.as_slice.ensures.value) at c.test_refusal.ensures) ∙ c.in-None.is)
    (λ d. sym (sym c.if-not-is_readable.false ∙ (rw (c.as_slice-2.ensures.value) at c.is_readable.ensures) d))

pub grant_read-requires-clause-free : goal.grant_read-requires-clause-free
grant_read-requires-clause-free c =
    let yes =
    test_still (reads c.args.state.now c.requires c.args.a c.args.o)
    (sym (rw (c.as_slice.ensures.value) at c.test_refusal.ensures) ∙ c.in-None.is) true
    (λ d. sym c.if-not-is_readable.false ∙ (rw (c.as_slice-2.ensures.value) at c.is_readable.ensures) d)
    c.reserve_granted_read.new.state c.reserve_granted_read.ensures.journal in
    rw (c.as_mut_slice-objects.ensures.value)
    (said_free (reads c.reserve_granted_read.new.state c.reserve_granted_read.ensures.kept c.args.a c.args.o) (sym yes))

pub push-requires-2-clause-answered : goal.push-requires-2-clause-answered
push-requires-2-clause-answered c =
    test_still (reads c.args.state.now c.requires c.args.a c.args.o)
    (sym (rw (c.as_slice.ensures.value) at c.test_refusal.ensures) ∙ c.in-None.is) true
    (λ d. sym c.if-not-is_readable.false ∙ (rw (c.as_slice-2.ensures.value) at c.is_readable.ensures) d)
    c.reserve_granted_read.new.state c.reserve_granted_read.ensures.journal

pub returns-clause-kept : goal.returns-clause-kept
returns-clause-kept c =
    let p = c.reserve_granted_read.new.state in
    let k = c.reserve_granted_read.ensures.kept in
    let yes =
    test_still (reads c.args.state.now c.requires c.args.a c.args.o)
    (sym (rw (c.as_slice.ensures.value) at c.test_refusal.ensures) ∙ c.in-None.is) true
    (λ d. sym c.if-not-is_readable.false ∙ (rw (c.as_slice-2.ensures.value) at c.is_readable.ensures) d)
    c.reserve_granted_read.new.state c.reserve_granted_read.ensures.journal in
    rw (with_items_is p.objects c.grant_read.new.objects (omega arith), c.push-2.ensures.entries)
    (rw (c.push-2.ensures.opening)
    (made_read p (entry_with (test_read c.args.a.0 c.args.o.0) (answered (flag true))) c.args.a c.args.o k _ _ yes
    (said_free (reads p k c.args.a c.args.o) (sym yes))
    (record { event = refl; object = refl; write = refl })
    (rw (c.as_mut_slice-objects.ensures.value) at c.grant_read.ensures)))
