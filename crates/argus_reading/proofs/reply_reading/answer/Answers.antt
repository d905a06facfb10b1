-- Reading stops where the last of the ways to go on stops.
use Rattle.argus_reading.proofs.{Unions.latter, Parts.{covered, answers}}
use Rattle.argus_texts.proofs.{Exits.passed, Stops.stops_behind}
use Rattle.std.proofs.Common.{[]}
use Rattle.argus_reading.specs.Replies.{AnswerParts, Answers}
use Rattle.argus_reading.proofs.reply_reading.answer.Goals as goal

pub returns-clause-stops : goal.returns-clause-stops
returns-clause-stops c =
    let text = c.args.text.now in
    let all = latter _ _ text c.in-Err.stop c.in-Err-full_answer.stop c.farther.result
    c.in-Err.ensures.stops c.in-Err-full_answer.ensures.stops c.farther.ensures in
    passed c.farther.result _ _
    (λ left s. stops_behind [] AnswerParts Answers (covered AnswerParts Answers answers) text left s) all
