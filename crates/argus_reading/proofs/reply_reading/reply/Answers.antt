-- Reading stops where the last of the ways to go on stops.
use Rattle.argus_reading.proofs.{Unions.latter, Parts.{covered, replies}}
use Rattle.argus_texts.proofs.{Exits.passed, Stops.stops_behind}
use Rattle.std.proofs.Common.{[]}
use Rattle.argus_reading.specs.Replies.{ReplyParts, Replies}
use Rattle.argus_reading.proofs.reply_reading.reply.Goals as goal

pub returns-clause-stops : goal.returns-clause-stops
returns-clause-stops c =
    let text = c.args.text.now in
    let but_two = latter _ _ text c.in-Err-refused.stop c.in-Err-answer.stop c.farther.result
    c.in-Err-refused.ensures.stops c.in-Err-answer.ensures.stops c.farther.ensures in
    let but_one = latter _ _ text c.in-Err-id.stop c.farther.result c.farther-2.result
    c.in-Err-id.ensures.stops but_two c.farther-2.ensures in
    let all = latter _ _ text c.in-Err.stop c.farther-2.result c.farther-3.result
    c.in-Err.ensures.stops but_one c.farther-3.ensures in
    passed c.farther-3.result _ _
    (λ left s. stops_behind [] ReplyParts Replies (covered ReplyParts Replies replies) text left s) all
