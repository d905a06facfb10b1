use Rattle.argus_embed.proofs.KeptObjects.{declared_without_base, object_copied, undeclared}
use Rattle.argus_embed.proofs.renewing.kept_object.Goals as goal

pub returns-in_default : goal.returns-in_default
returns-in_default c = undeclared c.args.guardian.now c.args.o.0 c.in_default.ensures

pub returns-in_default-base : goal.returns-in_default-base
returns-in_default-base c =
    absurd (declared_without_base c.args.guardian.now c.args.o.0 c.in-Some.shape.now c.in-Some.ensures
    c.in_default-base.ensures.told)

pub returns : goal.returns
returns c =
    object_copied c.args.guardian.now c.args.o.0 c.in-Some.shape.now c.in_ok-shape.shape _ _ c.in-Some.ensures
    c.in-Some-base.ensures.told c.in_ok-shape.ensures c.in_ok-base.ensures
