-- A field or a tag by its number.
use Rattle.std.proofs.Common.{sym}
use Rattle.argus_contents.specs.{Ty.plain_fields, Value.plain_value}
use Rattle.argus_contents.proofs.Types.{ty_at-within, ty_at-past, choice_typed, choice_past}
use Rattle.argus_contents.proofs.typing.has_type_at.Goals as goal

pub returns-in-Some : goal.returns-in-Some
returns-in-Some c =
    let l = c.in-Some.ensures.lookup in
    rw (
      choice_typed (plain_fields c.args.names.now) c.args.number c.args.declared (plain_value c.args.value.now) _
          (ty_at-within c.args.names.now c.args.number c.in-Some.field-0.now l.3.0),
      ← l.1,
    ) c.typed.ensures

pub returns-in-None : goal.returns-in-None
returns-in-None c = sym (choice_past (plain_fields c.args.names.now) c.args.number c.args.declared
    (plain_value c.args.value.now) (ty_at-past c.args.names.now c.args.number c.in-None.ensures.lookup.3))
