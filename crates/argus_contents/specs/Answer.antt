-- What an answer says.
use Rattle.std.specs.Prelude.{ℤ, Bool, Option, Some, None}
use Rattle.argus_contents.specs.{Value.{PlainValue, plain_value}, Content.{PlainContent, plain_content}}
use Rattle.argus_contents.specs.{declared.signal.Signal.Signal, declared.answer.Answer.Answer}
use Rattle.argus_contents.specs.declared.answer.Answer.TheVariants as answer

-- a plain answer
pub data PlainAnswer : Type 0 where
  done : PlainAnswer
  val : PlainValue → PlainAnswer
  num : ℤ → PlainAnswer
  flag : Bool → PlainAnswer
  body : PlainContent → PlainAnswer
  signal : Signal → PlainAnswer

-- what an answer says
abbrev pub plain_answer : Answer → PlainAnswer
plain_answer answer.Done = done
plain_answer (answer.Val v) = val (plain_value v)
plain_answer (answer.Num n) = num n
plain_answer (answer.Flag b) = flag b
plain_answer (answer.Body c) = body (plain_content c.value)
plain_answer (answer.Signal s) = signal s

-- the value, or the signal if there is none
abbrev pub value_or : Signal → Option PlainValue → PlainAnswer
value_or s (Some v) = val v
value_or s None = signal s

-- done, unless there is a signal
abbrev pub done_or : Option Signal → PlainAnswer
done_or None = done
done_or (Some s) = signal s
