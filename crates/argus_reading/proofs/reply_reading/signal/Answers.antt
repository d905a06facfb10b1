-- Reading stops where the last of the ways to go on stops.
use Rattle.argus_reading.proofs.{Unions.latter, Parts.{covered, signals}}
use Rattle.argus_texts.proofs.{Exits.passed, Stops.stops_behind}
use Rattle.std.proofs.Common.{[]}
use Rattle.argus_reading.specs.Replies.{SignalWords, Signals}
use Rattle.argus_reading.proofs.reply_reading.signal.Goals as goal

pub returns-clause-stops : goal.returns-clause-stops
returns-clause-stops c =
    let text = c.args.text.now in
    let but_four = latter _ _ text c.in-Err-word-4.stop c.in-Err-word-5.stop c.farther.result
    c.in-Err-word-4.ensures.stops c.in-Err-word-5.ensures.stops c.farther.ensures in
    let but_three = latter _ _ text c.in-Err-word-3.stop c.farther.result c.farther-2.result
    c.in-Err-word-3.ensures.stops but_four c.farther-2.ensures in
    let but_two = latter _ _ text c.in-Err-word-2.stop c.farther-2.result c.farther-3.result
    c.in-Err-word-2.ensures.stops but_three c.farther-3.ensures in
    let but_one = latter _ _ text c.in-Err-word.stop c.farther-3.result c.farther-4.result
    c.in-Err-word.ensures.stops but_two c.farther-4.ensures in
    let all = latter _ _ text c.in-Err.stop c.farther-4.result c.farther-5.result
    c.in-Err.ensures.stops but_one c.farther-5.ensures in
    passed c.farther-5.result _ _
    (λ left s. stops_behind [] SignalWords Signals (covered SignalWords Signals signals) text left s) all
