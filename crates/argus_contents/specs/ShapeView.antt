-- What the parts of a shape say to code that looks at them.
use Rattle.argus_contents.specs.{Shape.{PlainShape, rec, arr, var}, Ty.{plain_ty, plain_fields}}
use Rattle.argus_contents.specs.declared.shape_view.ShapeView.{ShapeView}
use Rattle.argus_contents.specs.declared.shape_view.ShapeView.TheVariants as view

-- what the parts say
abbrev pub plain_view : ShapeView → PlainShape
plain_view (view.Rec fs) = rec (plain_fields fs.now)
plain_view (view.Arr t) = arr (plain_ty t.now)
plain_view (view.Var fs) = var (plain_fields fs.now)
