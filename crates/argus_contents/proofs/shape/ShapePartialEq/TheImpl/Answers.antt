-- An answer that tells where two shapes say the same is the test's.
use Rattle.argus_contents.specs.Decided.{shape_answered}
use Rattle.argus_contents.proofs.shape.ShapePartialEq.TheImpl.Goals as goal

pub eq-tells : goal.eq-tells
eq-tells c = shape_answered c.result c.args.self.now c.args.other.now c.ensures
