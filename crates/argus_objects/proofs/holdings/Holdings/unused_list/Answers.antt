-- What nobody has no other has.
use Rattle.argus_objects.proofs.holdings.Holdings.unused_list.Goals as goal

pub returns-in-Some-clause-free : goal.returns-in-Some-clause-free
returns-in-Some-clause-free c = c.in-Some.ensures.free c.args.a
