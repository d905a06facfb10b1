-- The parts of a struct and of a oneof, and values that aren't as many as the names.
use Rattle.std.proofs.Common.{sym}
use Rattle.argus_contents.proofs.Levels.{plain_ty-Fields, plain_ty-Choice, plain_value-Fields, plain_value-Choice}
use Rattle.argus_contents.proofs.Types.{other_number, ty_at-within, ty_at-past, choice_typed, choice_past}
use Rattle.argus_contents.proofs.typing.+typed.Goals as goal

pub each_has_type-returns-then-values-names : goal.each_has_type-returns-then-values-names
each_has_type-returns-then-values-names t c =
    sym (other_number c.args.declared c.args.names.now c.args.values.now c.if-values-names.true)

pub has_type-returns-in-Fields-Fields : goal.has_type-returns-in-Fields-Fields
has_type-returns-in-Fields-Fields t c =
    let i = c.in-Fields-Fields in
    rw (
      i.is-0,
      i.is-1,
      plain_ty-Fields i.names,
      plain_value-Fields i.fields,
      ← c.deref-in-Fields-Fields.ensures,
      ← c.deref-in-Fields-Fields-2.ensures.value,
      ← c.deref-in-Fields-Fields-3.ensures.value,
    ) c.each_has_type.ensures

pub has_type-returns-in-Some : goal.has_type-returns-in-Some
has_type-returns-in-Some t c =
    let i = c.in-Choice-Choice in
    let l = c.in-Some.ensures.lookup in
    rw (
      i.is-0,
      i.is-1,
      plain_ty-Choice i.names,
      plain_value-Choice i.tag i.part,
      ← c.deref-in-Choice-Choice.ensures.value,
      choice_typed _ i.tag _ _ _
          (ty_at-within c.deref-in-Choice-Choice.result.now i.tag c.in-Some.field-0.now l.3.0),
      ← l.1,
      ← c.deref-in-Some.ensures,
    ) c.has_type.ensures

pub has_type-returns-in-None : goal.has_type-returns-in-None
has_type-returns-in-None t c =
    let i = c.in-Choice-Choice in
    rw (
      i.is-0,
      i.is-1,
      plain_ty-Choice i.names,
      plain_value-Choice i.tag i.part,
      ← c.deref-in-Choice-Choice.ensures.value,
      choice_past _ i.tag _ _
          (ty_at-past c.deref-in-Choice-Choice.result.now i.tag c.in-None.ensures.lookup.3),
    )
