-- One object more of the list is noted, where the action has a version of it.
use Rattle.std.proofs.{Common.{[], ap, cond, get_or, sym, take, ◌++◌, ◌∙◌, ◌∷◌}, lemmas.List.get_or_default}
use Rattle.argus_core.specs.{Effect.written_in, declared.engine.atomic_object.AtomicObject.AtomicObject}
use Rattle.argus_core.proofs.{Changes.listed_at, Written.written_more}
use Rattle.argus_objects.specs.CellChanges.{has_version}
use Rattle.argus_core.proofs.effect.written_numbers.Goals as goal

pub bounds-objects-o : goal.bounds-objects-o
bounds-objects-o c =
    c.requires (get_or c.args.listed.now c.loop-o.o-index (record { 0 = 0 })).0
    (listed_at c.args.listed.now c.loop-o.o-index (record { 0 = 0 }) c.loop-o-test.true)

pub loop-o-preserved : goal.loop-o-preserved
loop-o-preserved c = λ d.
    let list = c.args.listed.now in
    let i = c.loop-o.o-index in
    let o = get_or list i (record { 0 = 0 }) in
    let low = c.requires o.0 (listed_at list i (record { 0 = 0 }) c.loop-o-test.true) in
    let objects = c.args.objects.now in
    let x = c.index-objects-o.result in
    c.in_ok-add_if_written.ensures
    ∙ ap (λ ns. ns ++ cond (has_version c.args.a x.cell.versions) (o.0 ∷ []) []) (c.loop-o.invariant d)
    ∙ ap (λ (y : AtomicObject). written_in c.args.a objects d (take i list)
    ++ cond (has_version c.args.a y.cell.versions) (o.0 ∷ []) [])
    (c.index-objects-o.is ∙ get_or_default objects o.0 x d low)
    ∙ sym (written_more c.args.a objects d list i (record { 0 = 0 }) c.loop-o-test.true)
