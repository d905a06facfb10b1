-- One object more, and then all of them.
use Rattle.std.proofs.Common.{subst}
use Rattle.argus_journal.specs.Opening.{plain_object}
use Rattle.argus_resume.specs.WellFormed.{IsWellFormedObject}
use Rattle.argus_resume.proofs.Listable.{objects_all, objects_more}
use Rattle.argus_resume.proofs.laws.openings_are_readable.Goals as goal

pub loop-object-preserved : goal.loop-object-preserved
loop-object-preserved c =
    objects_more c.args.objects.now c.loop-object.object-index c.object-item.result c.loop-object-test.true
    c.loop-object.invariant
    (subst (λ o. IsWellFormedObject (plain_object o)) c.object-item.is c.object_is_well_formed.ensures)

pub returns : goal.returns
returns c = objects_all c.args.objects.now c.loop-object.object-index c.loop-object-test.false c.loop-object.invariant
