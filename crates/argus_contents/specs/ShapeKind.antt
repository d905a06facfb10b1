-- What the parts of a shape say, and what is looked for in its lists of names.
use Rattle.std.specs.Prelude.{ℕ, Bool, List}
use Rattle.argus_contents.specs.Shape.{PlainShape, rec, arr, var, has_twice, has_none, has_too_many}
use Rattle.argus_contents.specs.{Ty.{plain_ty, plain_fields}, declared.shape_kind.ShapeKind.ShapeKind}
use Rattle.argus_contents.specs.declared.shaping.NameTest.{NameTest}
use Rattle.argus_contents.specs.declared.shape_kind.ShapeKind.TheVariants as kind
use Rattle.argus_contents.specs.declared.shaping.NameTest.TheVariants as test

-- what the parts of a shape say
abbrev pub plain_kind : ShapeKind → PlainShape
plain_kind (kind.Rec fs) = rec (plain_fields fs.items)
plain_kind (kind.Arr t) = arr (plain_ty t)
plain_kind (kind.Var fs) = var (plain_fields fs.items)

-- what is looked for
abbrev pub test_of : NameTest → List (List ℕ) → Bool
test_of test.Twice = has_twice
test_of test.None = has_none
test_of test.TooMany = has_too_many
