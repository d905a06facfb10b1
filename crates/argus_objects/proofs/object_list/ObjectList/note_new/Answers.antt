-- An object that isn't in the list may go to its end.
use Rattle.std.proofs.Common.{◌≡◌, true, ap}
use Rattle.argus_objects.proofs.Distinct.{distinct_pushed}
use Rattle.argus_objects.proofs.object_list.ObjectList.note_new.Goals as goal

pub invariant_of-self : goal.invariant_of-self
invariant_of-self c =
    let same : c.self.inside.objects.items ≡ c.args.self.now.objects = ap (λ l. l.objects) c.self.view_is in
    rw c.push_reserved.ensures.items
    (distinct_pushed true c.self.inside.objects.items c.args.o c.self.invariant
    (rw same c.requires.absent))
