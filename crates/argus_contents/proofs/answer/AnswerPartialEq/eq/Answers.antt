-- The test tells where two answers say the same.
use Rattle.argus_contents.specs.{Decided.answer_decided, Answer.plain_answer}
use Rattle.argus_contents.proofs.answer.AnswerPartialEq.eq.Goals as goal

pub returns : goal.returns
returns c = rw c.is_same.ensures (answer_decided (plain_answer c.args.self.now) (plain_answer c.args.other.now))
