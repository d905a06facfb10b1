-- What an answer that takes no memory says, and which answers take memory.
use Rattle.std.specs.Prelude.{Bool, true, false}
use Rattle.argus_contents.specs.{Value.PlainValue, Answer.PlainAnswer, declared.small_answer.SmallAnswer.SmallAnswer}
use Rattle.argus_contents.specs.Value as value
use Rattle.argus_contents.specs.Answer as answer
use Rattle.argus_contents.specs.declared.small_answer.SmallAnswer.TheVariants as small

-- what an answer that takes no memory says
abbrev pub plain_small : SmallAnswer → PlainAnswer
plain_small small.Null = answer.val value.null
plain_small (small.Bool b) = answer.val (value.bool b)
plain_small (small.Int n) = answer.val (value.int n)
plain_small (small.Atomic o) = answer.val (value.atomic o.0)
plain_small (small.Num n) = answer.num n
plain_small (small.Flag b) = answer.flag b
plain_small (small.Signal s) = answer.signal s

-- a value has parts of its own in memory: a text, values, or the value of a choice
abbrev pub has_parts : PlainValue → Bool
has_parts value.null = false
has_parts (value.bool b) = false
has_parts (value.int n) = false
has_parts (value.text bs) = true
has_parts (value.atomic o) = false
has_parts (value.sequence vs) = true
has_parts (value.fields vs) = true
has_parts (value.choice t v) = true

-- an answer takes memory: a whole content, or a value that has parts; no query returns done
abbrev pub takes_memory : PlainAnswer → Bool
takes_memory answer.done = false
takes_memory (answer.val v) = has_parts v
takes_memory (answer.num n) = false
takes_memory (answer.flag b) = false
takes_memory (answer.body c) = true
takes_memory (answer.signal s) = false
