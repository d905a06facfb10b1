-- The journal refuses a declaration where there are too many objects, or answers the next number; then there is one
-- object more, absent and free.
use Rattle.std.proofs.{Common.{arith, length, ◌<◌, ◌≡◌}, lemmas.Grind.common_steps}
use Rattle.argus_contents.specs.declared.limits.TheConstants.{MAX_OBJECTS}
use Rattle.argus_core.{specs.declared.engine.atomic_object.AtomicObject.AtomicObject, proofs.Declared.declare_refused}
use Rattle.argus_core.proofs.Declared.{declared_right, kept_declared}
use Rattle.argus_journal.specs.LegalJournal.{entries_in, opening_in}
use Rattle.argus_core.proofs.engine.declaring.declare.Goals as goal

pub refuse-requires-clause-right : goal.refuse-requires-clause-right
refuse-requires-clause-right c = grind (arith, common_steps, declare_refused)

pub push-requires-clause-answered : goal.push-requires-clause-answered
push-requires-clause-answered c = grind (arith, common_steps, declared_right)

pub returns-clause-kept : goal.returns-clause-kept
returns-clause-kept c =
    let p = c.args.state.now in
    let s = opening_in p.journal in
    let j = entries_in p.journal in
    let xs = p.objects.items in
    let low : length xs < MAX_OBJECTS = omega arith in
    let number : c.len-2.result ≡ length xs = omega arith in
    let x : AtomicObject = record { shape = c.in_ok-kept.kept; cell = c.new.result } in
    rw (c.push.ensures.entries, c.push.ensures.opening, c.push_reserved.ensures.items, c.reserve-2.ensures.items)
    (rw (c.reserve.ensures.entries, c.reserve.ensures.opening)
    (kept_declared _ _ _ _ _ c.requires c.args.shape low c.len-2.result number x c.in_ok-kept.ensures
    c.new.ensures.base c.new.ensures.readers c.new.ensures.versions))
