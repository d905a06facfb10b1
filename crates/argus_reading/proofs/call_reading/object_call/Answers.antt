-- Reading stops where the last of the ways to go on stops.
use Rattle.argus_reading.proofs.Unions.{latter}
use Rattle.argus_reading.proofs.call_reading.object_call.Goals as goal

pub returns-clause-stops : goal.returns-clause-stops
returns-clause-stops c =
    let text = c.args.text.now in
    let but_two = latter _ _ text c.in-Err-place.stop c.in-Err-place-2.stop c.farther.result
    c.in-Err-place.ensures.stops c.in-Err-place-2.ensures.stops c.farther.ensures in
    let but_one = latter _ _ text c.in-Err-alter.stop c.farther.result c.farther-2.result
    c.in-Err-alter.ensures.stops but_two c.farther-2.ensures in
    latter _ _ text c.in-Err.stop c.farther-2.result c.farther-3.result
    c.in-Err.ensures.stops but_one c.farther-3.ensures
