-- The languages of replies, and of the readers of some of them.
use Rattle.std.specs.Prelude.{ℕ, List, codes}
use Rattle.argus_contents.specs.{Answer.PlainAnswer, declared.limits.TheConstants.MAX_VALUE_DEPTH}
use Rattle.argus_contents.specs.declared.signal.Signal.{Signal}
use Rattle.argus_contents.specs.Answer as answer
use Rattle.argus_texts.specs.{Language.Language, Languages.{Contents, Ints, NotDigit, ValueEnds, Values, Word}}
use Rattle.argus_entries.specs.EntrySpelling.{answer_spelling, refusal_name, reply_spelling, signal_spelling}
use Rattle.argus_entries.specs.{Laws.{AnswerWithin, ReplyWithin}, Reply.PlainReply, declared.refusal.Refusal.Refusal}
use Rattle.argus_entries.specs.Reply as reply
use Rattle.argus_reading.specs.{Combined.{Either, Worded}, Operations.Ids}

-- signals
abbrev pub Signals : Language
Signals = record {
  Thing = Signal;
  Good = λ s. Unit {0};
  form = signal_spelling;
  Ends = λ s rest. Unit {0};
}

-- the words of signals
abbrev pub SignalWords : Language
SignalWords = Either (Word (codes "signal absent")) (Either (Word (codes "signal exists"))
    (Either (Word (codes "signal bounds")) (Either (Word (codes "signal wrong_tag"))
    (Either (Word (codes "signal negative_size")) (Word (codes "signal limits"))))))

-- refusals
abbrev pub Refusals : Language
Refusals =
    record { Thing = Refusal; Good = λ r. Unit {0}; form = refusal_name; Ends = λ r rest. Unit {0} }

-- the names of refusals of an action or an object that a call names
abbrev pub NamedRefusals : Language
NamedRefusals = Either (Word (codes "NoAction")) (Either (Word (codes "Over"))
    (Either (Word (codes "Suspended")) (Either (Word (codes "NoObject"))
    (Word (codes "IllTyped")))))

-- the names of the other refusals
abbrev pub OtherRefusals : Language
OtherRefusals = Either (Word (codes "Conflict")) (Either (Word (codes "TooDeep"))
    (Either (Word (codes "TooMany")) (Word (codes "NoSiblings"))))

-- what refusals are read from
abbrev pub RefusalParts : Language
RefusalParts = Either NamedRefusals OtherRefusals

-- what may come after an answer
abbrev pub AnswerEnds : PlainAnswer → List ℕ → Type 0
AnswerEnds (answer.val v) rest = ValueEnds v rest
AnswerEnds (answer.num n) rest = NotDigit rest
AnswerEnds a rest = Unit {0}

-- answers whose number is in range, with values of depth at most 16
abbrev pub Answers : Language
Answers = record {
  Thing = PlainAnswer;
  Good = AnswerWithin MAX_VALUE_DEPTH;
  form = answer_spelling;
  Ends = AnswerEnds;
}

-- the words of answers that are one word
abbrev pub WordAnswers : Language
WordAnswers = Either (Word (codes "done")) (Either (Word (codes "flag true"))
    (Either (Word (codes "flag false")) Signals))

-- the parts of answers that have a value, a content or a number
abbrev pub FullAnswers : Language
FullAnswers = Either (Worded (codes "val ") (Values MAX_VALUE_DEPTH))
    (Either (Worded (codes "num ") Ints) (Worded (codes "body ") (Contents MAX_VALUE_DEPTH)))

-- what answers are read from
abbrev pub AnswerParts : Language
AnswerParts = Either WordAnswers FullAnswers

-- what may come after a reply
abbrev pub ReplyEnds : PlainReply → List ℕ → Type 0
ReplyEnds (reply.object o) rest = NotDigit rest
ReplyEnds (reply.begun a) rest = NotDigit rest
ReplyEnds (reply.answered a) rest = AnswerEnds a rest
ReplyEnds (reply.refused r) rest = Unit {0}

-- replies whose number is in range, with values of depth at most 16
abbrev pub Replies : Language
Replies = record {
  Thing = PlainReply;
  Good = ReplyWithin MAX_VALUE_DEPTH;
  form = reply_spelling;
  Ends = ReplyEnds;
}

-- what replies are read from
abbrev pub ReplyParts : Language
ReplyParts = Either (Worded (codes "o") Ids) (Either (Worded (codes "a") Ids)
    (Either (Worded (codes "refused ") Refusals) Answers))
