-- One object more is copied as the action's version of it, until all are.
use Rattle.std.{proofs.{Common.{ap, get_or, map, ◌∙◌}, lemmas.List.{get_or_default, take_all}}, specs.Option.unwrap_or}
use Rattle.std.specs.Prelude.{None}
use Rattle.argus_core.specs.{Effect.version_in, declared.engine.atomic_object.AtomicObject.AtomicObject}
use Rattle.argus_core.proofs.Written.{copied_more}
use Rattle.argus_objects.specs.CellChanges.{version_of}
use Rattle.argus_core.proofs.effect.contents_of.Goals as goal

pub loop-number-preserved : goal.loop-number-preserved
loop-number-preserved c = λ d.
    let n = get_or c.args.numbers.now c.loop-number.number-index 0 in
    let low = c.requires c.loop-number.number-index 0 c.loop-number-test.true in
    let x = c.index-objects-number.result in
    copied_more c.args.a c.args.objects.now d c.args.numbers.now c.loop-number.number-index
    c.loop-number.contents.items c.push.new.self.items c.in_ok-content.content c.loop-number-test.true
    (c.loop-number.invariant d) c.in_ok-push.ensures.items
    (c.in_ok-content.ensures
    ∙ ap (λ vs. unwrap_or (version_of c.args.a vs) None) c.versions.ensures
    ∙ ap (λ (y : AtomicObject). unwrap_or (version_of c.args.a y.cell.versions) None)
    (c.index-objects-number.is ∙ get_or_default c.args.objects.now n x d low))

pub returns : goal.returns
returns c = λ d.
    c.loop-number.invariant d
    ∙ ap (map (λ o. (o, version_in c.args.a c.args.objects.now d o)))
    (take_all c.loop-number.number-index c.args.numbers.now c.loop-number-test.false)
