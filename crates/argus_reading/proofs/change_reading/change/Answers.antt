-- Reading stops where the last of the ways to go on stops.
use Rattle.argus_reading.proofs.{Unions.latter, Parts.{covered, changes}}
use Rattle.argus_texts.proofs.{Exits.passed, Stops.stops_behind}
use Rattle.std.proofs.Common.{[]}
use Rattle.argus_reading.specs.Operations.{ChangeParts, Changes}
use Rattle.argus_reading.proofs.change_reading.change.Goals as goal

pub returns-clause-stops : goal.returns-clause-stops
returns-clause-stops c =
    let text = c.args.text.now in
    let but_one = latter _ _ text c.in-Err-single_change.stop c.in-Err-double_change.stop c.farther.result
    c.in-Err-single_change.ensures.stops c.in-Err-double_change.ensures.stops c.farther.ensures in
    let all = latter _ _ text c.in-Err.stop c.farther.result c.farther-2.result
    c.in-Err.ensures.stops but_one c.farther-2.ensures in
    passed c.farther-2.result _ _
    (λ left s. stops_behind [] ChangeParts Changes (covered ChangeParts Changes changes) text left s) all
