-- Reading stops where the last of the ways to go on stops.
use Rattle.argus_reading.proofs.Unions.{latter}
use Rattle.argus_reading.proofs.reply_reading.full_answer.Goals as goal

pub returns-clause-stops : goal.returns-clause-stops
returns-clause-stops c =
    let text = c.args.text.now in
    let but_one = latter _ _ text c.in-Err-int_behind.stop c.in-Err-content_behind.stop c.farther.result
    c.in-Err-int_behind.ensures.stops c.in-Err-content_behind.ensures.stops c.farther.ensures in
    latter _ _ text c.in-Err.stop c.farther.result c.farther-2.result c.in-Err.ensures.stops but_one c.farther-2.ensures
