-- A copy of a struct or a oneof says what its source says.
use Rattle.std.proofs.Common.{ap}
use Rattle.argus_contents.specs.Ty as plain
use Rattle.argus_contents.proofs.Levels.{plain_ty-Fields, plain_ty-Choice}
use Rattle.argus_contents.proofs.ty.+duplicate.Goals as goal

pub duplicate_ty-returns-in_ok-duplicate_fields-in-Fields :
    goal.duplicate_ty-returns-in_ok-duplicate_fields-in-Fields
duplicate_ty-returns-in_ok-duplicate_fields-in-Fields t c =
    rw (
      plain_ty-Fields c.in_ok-duplicate_fields-in-Fields.field-0,
      c.in-Fields.is,
      plain_ty-Fields c.in-Fields.fields,
      ← c.deref-in-Fields.ensures.value,
    )
    (ap plain.fields c.in_ok-duplicate_fields-in-Fields.ensures)

pub duplicate_ty-returns-in_ok-duplicate_fields-in-Choice :
    goal.duplicate_ty-returns-in_ok-duplicate_fields-in-Choice
duplicate_ty-returns-in_ok-duplicate_fields-in-Choice t c =
    rw (
      plain_ty-Choice c.in_ok-duplicate_fields-in-Choice.field-0,
      c.in-Choice.is,
      plain_ty-Choice c.in-Choice.tags,
      ← c.deref-in-Choice.ensures.value,
    )
    (ap plain.choice c.in_ok-duplicate_fields-in-Choice.ensures)
