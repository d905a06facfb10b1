-- The search compares numbers.
use Rattle.argus_objects.proofs.Searched.{reader_searched}
use Rattle.argus_objects.proofs.readers.find.Goals as goal

pub returns : goal.returns
returns c =
    let r = reader_searched c.args.a c.args.readers.now c.requires c.binary_search.result c.binary_search.ensures.bound
    c.binary_search.ensures.position in
    record { found = r.found; missing = r.missing }
