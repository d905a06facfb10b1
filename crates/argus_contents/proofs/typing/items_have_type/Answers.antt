-- The two halves of a queue decide for the whole.
use Rattle.std.proofs.Common.{refl}
use Rattle.argus_contents.specs.Ty.{plain_ty}
use Rattle.argus_contents.proofs.Types.{all_typed-append}
use Rattle.argus_contents.proofs.typing.items_have_type.Goals as goal

pub returns-then-all_have_type : goal.returns-then-all_have_type
returns-then-all_have_type c =
    rw (
      ← c.as_slices.ensures.items,
      all_typed-append (plain_ty c.args.ty.now) c.args.declared _ _,
      ← c.all_have_type.ensures,
      c.if-all_have_type.true,
    ) c.all_have_type-then-all_have_type.ensures

pub returns-else-all_have_type : goal.returns-else-all_have_type
returns-else-all_have_type c =
    rw (
      ← c.as_slices.ensures.items,
      all_typed-append (plain_ty c.args.ty.now) c.args.declared _ _,
      ← c.all_have_type.ensures,
      c.if-all_have_type.false,
    ) refl
