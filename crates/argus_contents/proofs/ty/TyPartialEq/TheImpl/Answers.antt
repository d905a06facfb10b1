-- An answer that tells where two tys say the same is the test's.
use Rattle.argus_contents.specs.{Decided.ty_answered, Ty.plain_ty}
use Rattle.argus_contents.proofs.ty.TyPartialEq.TheImpl.Goals as goal

pub eq-tells : goal.eq-tells
eq-tells c = ty_answered c.result (plain_ty c.args.self.now) (plain_ty c.args.other.now) c.ensures
