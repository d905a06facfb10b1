-- The test tells where two tys say the same.
use Rattle.argus_contents.specs.{Decided.ty_decided, Ty.plain_ty}
use Rattle.argus_contents.proofs.ty.TyPartialEq.eq.Goals as goal

pub returns : goal.returns
returns c = rw c.is_same.ensures (ty_decided (plain_ty c.args.self.now) (plain_ty c.args.other.now))
