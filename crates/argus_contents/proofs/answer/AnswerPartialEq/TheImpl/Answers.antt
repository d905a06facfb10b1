-- An answer that tells where two answers say the same is the test's.
use Rattle.argus_contents.specs.{Decided.answer_answered, Answer.plain_answer}
use Rattle.argus_contents.proofs.answer.AnswerPartialEq.TheImpl.Goals as goal

pub eq-tells : goal.eq-tells
eq-tells c = answer_answered c.result (plain_answer c.args.self.now) (plain_answer c.args.other.now) c.ensures
