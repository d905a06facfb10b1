-- Where no type, no field and no list comes, and what is read of a list.
use Rattle.std.proofs.{Common.{◌-◌, ◌∷◌, map, inl, refl, ap, ◌∙◌, subst, sym, arith, rules}, lemmas.List.map-append}
use Rattle.argus_contents.specs.Ty.{plain_field, plain_ty}
use Rattle.argus_texts.specs.Language.{First}
use Rattle.argus_texts.proofs.{Items.{NoEnd, no_ascii_end}, ShapeParts.{not_closed, no_name_no_field, no_ty_no_field}}
use Rattle.argus_texts.proofs.ShapeParts.{no_field_no_list, no_end_no_list, no_more, comma_goes_on, goes_on, closes}
use Rattle.argus_texts.proofs.Exits.{refused_on}
use Rattle.argus_texts.proofs.shape_reading.+shape_reading.Goals as goal

pub closed_ty-returns-in_default-clause-refused : goal.closed_ty-returns-in_default-clause-refused
closed_ty-returns-in_default-clause-refused t c =
    not_closed c.args.levels c.args.text.now c.in_ok-ty.others.now (plain_ty c.in_ok-ty.ty)
    c.in_ok-ty.ensures.read c.in_default.ensures.none

pub field-returns-in_err-name-clause-refused : goal.field-returns-in_err-name-clause-refused
field-returns-in_err-name-clause-refused t c =
    refused_on c.from_residual.result c.in_err-name.field-0.0 _ _ c.from_residual.ensures.1
    (no_name_no_field c.args.levels c.args.text.now) c.in_err-name.ensures.refused

pub field-returns-in_err-ty-clause-refused : goal.field-returns-in_err-ty-clause-refused
field-returns-in_err-ty-clause-refused t c =
    refused_on c.from_residual-in_err-ty.result c.in_err-ty.field-0.0 _ _ c.from_residual-in_err-ty.ensures.1
    (no_ty_no_field c.args.levels c.args.text.now c.in_ok-name.name c.in_ok-name.others.now c.in_ok-name.ensures.read)
    c.in_err-ty.ensures.refused

pub names-returns-in_err-name-clause-refused : goal.names-returns-in_err-name-clause-refused
names-returns-in_err-name-clause-refused t c =
    refused_on c.from_residual.result c.in_err-name.field-0.0 _ _ c.from_residual.ensures.1
    (λ h s. no_field_no_list _ c.args.levels c.loop.rest.now h (c.loop.invariant.left s)) c.in_err-name.ensures.refused

pub names-returns-in_default-clause-refused : goal.names-returns-in_default-clause-refused
names-returns-in_default-clause-refused t c =
    λ s. no_end_no_list _ c.args.levels c.loop.rest.now c.in_ok-name.behind.now _ c.in_ok-name.ensures.read
    (no_ascii_end 93 (inl refl) c.in_ok-name.behind.now c.in_default.ensures.none) (c.loop.invariant.left s)

pub names-returns-then-first-ne44-clause-refused : goal.names-returns-then-first-ne44-clause-refused
names-returns-then-first-ne44-clause-refused t c =
    λ s. no_end_no_list _ c.args.levels c.loop.rest.now c.in_ok-name.behind.now _ c.in_ok-name.ensures.read
    (subst (First (NoEnd 93)) (sym c.in-Some.ensures.some.0) (c.if-first-ne44.true, c.if-first-eq93.false))
    (c.loop.invariant.left s)

pub names-returns-then-first-eq93-clause-read : goal.names-returns-then-first-eq93-clause-read
names-returns-then-first-eq93-clause-read t c =
    closes c.args.text.now c.loop.rest.now c.in_ok-name.behind.now c.in-Some.others.now
    (map plain_field c.loop.names.items) (map plain_field c.push.new.self.items)
    _ c.loop.invariant.read c.in_ok-name.ensures.read
    (c.in-Some.ensures.some.0 ∙ ap (λ m. m ∷ c.in-Some.others.now) c.if-first-eq93.true)
    (ap (map plain_field) c.in_ok-push.ensures.items ∙ map-append plain_field c.loop.names.items _)

pub names-returns-clause-refused : goal.names-returns-clause-refused
names-returns-clause-refused t c =
    λ s. no_more _ c.args.levels c.loop.rest.now (omega (arith, c.loop-test.false)) (c.loop.invariant.left s)

pub names-loop-preserved : goal.names-loop-preserved
names-loop-preserved t c =
    let e = c.in-Some.ensures.some.0 ∙ ap (λ m. m ∷ c.in-Some.others.now) c.if-first-ne44.false in
    record {
      read = goes_on c.args.text.now c.loop.rest.now c.in_ok-name.behind.now c.in-Some.others.now
          (map plain_field c.loop.names.items) (map plain_field c.push.new.self.items)
          _ c.loop.invariant.read c.in_ok-name.ensures.read e
          (ap (map plain_field) c.in_ok-push.ensures.items ∙ map-append plain_field c.loop.names.items _);
      left = λ s. comma_goes_on (64 - c.loop.counter)
          _ c.args.levels c.loop.rest.now c.in_ok-name.behind.now c.in-Some.others.now _ c.in_ok-name.ensures.read e
          (omega (arith, c.loop-test.true)) (c.loop.invariant.left s);
      utf8 = c.in-Some.ensures.utf8;
    }

pub names-loop-init : goal.names-loop-init
names-loop-init t c = search rules
