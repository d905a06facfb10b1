-- The test tells where two shapes say the same.
use Rattle.argus_contents.specs.{Decided.shape_decided, ShapeKind.plain_kind}
use Rattle.argus_contents.proofs.shape.ShapePartialEq.eq.Goals as goal

pub returns : goal.returns
returns c = rw (c.is_same.ensures, ← c.self.view_is, ← c.other.view_is)
    (shape_decided (plain_kind c.self.inside.kind) (plain_kind c.other.inside.kind))
