-- A text begins with one signal, refusal, answer and reply at most.
use Rattle.std.proofs.{lemmas.Bool.false≢true, Common.{◌≡◌, ℕ, true, List, [], ◌∷◌, ◌++◌, arith, refl, ap}}
use Rattle.std.specs.Prelude.{codes, ◌==◌}
use Rattle.argus_contents.specs.{Answer.PlainAnswer, declared.signal.Signal.Signal}
use Rattle.argus_texts.specs.Languages.{Contents, Values}
use Rattle.argus_texts.proofs.{Contents.contents_clear, Forms.{ends_first, value_ends, values_clear}, Lists.cancel}
use Rattle.argus_texts.proofs.Stops.{Clear}
use Rattle.argus_entries.specs.EntrySpelling.{answer_spelling, refusal_name, reply_spelling, signal_spelling}
use Rattle.argus_entries.specs.{Laws.{AnswerWithin, ReplyWithin}, Reply.PlainReply, declared.refusal.Refusal.Refusal}
use Rattle.argus_entries.proofs.FirstWords.{answer_kind, flag_at, flag_back, one_answer_kind, one_reply_kind}
use Rattle.argus_entries.proofs.FirstWords.{refusal_at, refusal_back, reply_kind, signal_at, signal_back}
use Rattle.argus_reading.specs.Replies.{AnswerEnds, Answers, Refusals, Replies, ReplyEnds}
use Rattle.argus_reading.proofs.{Joints.{ids_clear, worded_ints_clear}, Words.worded_clear}
use Rattle.argus_contents.specs.Answer as answer
use Rattle.argus_entries.specs.Reply as reply

-- what is told by its front alone, and the rest with it
by_front : (A : Type 0) (form : A → List ℕ) (at : List ℕ → A) → ((a : A) (x : List ℕ) → at (form a ++ x) ≡ a)
    → (a b : A) (x y : List ℕ) → form a ++ x ≡ form b ++ y → (a ≡ b) × (x ≡ y)
by_front A form at back a b x y e = grind (arith, cancel)

-- SIGNALS

one_signal : (a b : Signal) (x y : List ℕ) → signal_spelling a ++ x ≡ signal_spelling b ++ y → (a ≡ b) × (x ≡ y)
one_signal a b x y e = by_front Signal signal_spelling signal_at signal_back a b x y e

-- REFUSALS

one_refusal : (a b : Refusal) (x y : List ℕ) → refusal_name a ++ x ≡ refusal_name b ++ y → (a ≡ b) × (x ≡ y)
one_refusal a b x y e = by_front Refusal refusal_name refusal_at refusal_back a b x y e

refusals_clear : Clear Refusals
refusals_clear = record { one = λ a b x y g h e f i. one_refusal a b x y i; nil = λ a. tt; first = λ a c x y e. tt }

-- ANSWERS

answer_told : (a b : PlainAnswer) (x y : List ℕ) → AnswerWithin 16 a → AnswerWithin 16 b → AnswerEnds a x
    → AnswerEnds b y → (answer_kind a == answer_kind b) ≡ true → answer_spelling a ++ x ≡ answer_spelling b ++ y
    → (a ≡ b) × (x ≡ y)
answer_told answer.done answer.done x y s t p q k e = (refl, cancel (codes "done") x y e)
answer_told (answer.val v) (answer.val w) x y s t p q k e =
    let r = (worded_clear (codes "val ") (Values 16) (values_clear 16)).one v w x y s t p q e in
    (ap answer.val r.0, r.1)
answer_told (answer.num m) (answer.num n) x y s t p q k e =
    let r = (worded_ints_clear (codes "num ")).one m n x y s t p q e in (ap answer.num r.0, r.1)
answer_told (answer.flag a) (answer.flag b) x y s t p q k e = grind (arith, by_front, flag_at, flag_back)
answer_told (answer.body c) (answer.body d) x y s t p q k e =
    let r = (worded_clear (codes "body ") (Contents 16) (contents_clear 16)).one c d x y s t p q e in
    (ap answer.body r.0, r.1)
answer_told (answer.signal a) (answer.signal b) x y s t p q k e =
    let r = one_signal a b x y e in (ap answer.signal r.0, r.1)
answer_told _ _ x y s t p q k e = absurd (false≢true k)

answer_nil : (a : PlainAnswer) → AnswerEnds a []
answer_nil p = grind (arith, value_ends)

answer_first : (a : PlainAnswer) (c : ℕ) (x y : List ℕ) → AnswerEnds a (c ∷ x) → AnswerEnds a (c ∷ y)
answer_first p c x y e = grind (arith, ends_first)

answers_clear : Clear Answers
answers_clear = grind (arith, answer_told, one_answer_kind, answer_nil, answer_first)

-- REPLIES

reply_told : (r s : PlainReply) (x y : List ℕ) → ReplyWithin 16 r → ReplyWithin 16 s → ReplyEnds r x → ReplyEnds s y
    → (reply_kind r == reply_kind s) ≡ true → reply_spelling r ++ x ≡ reply_spelling s ++ y → (r ≡ s) × (x ≡ y)
reply_told (reply.object m) (reply.object n) x y a b p q k e =
    let r = (ids_clear (codes "o")).one m n x y (omega arith, omega arith) (omega arith, omega arith) p q e in
    (ap reply.object r.0, r.1)
reply_told (reply.begun m) (reply.begun n) x y a b p q k e =
    let r = (ids_clear (codes "a")).one m n x y (omega arith, omega arith) (omega arith, omega arith) p q e in
    (ap reply.begun r.0, r.1)
reply_told (reply.answered m) (reply.answered n) x y a b p q k e =
    let r = answers_clear.one m n x y a b p q e in (ap reply.answered r.0, r.1)
reply_told (reply.refused m) (reply.refused n) x y a b p q k e = grind (arith, worded_clear, refusals_clear)
reply_told _ _ x y a b p q k e = absurd (false≢true k)

reply_nil : (r : PlainReply) → ReplyEnds r []
reply_nil p = grind (arith, answer_nil)

reply_first : (r : PlainReply) (c : ℕ) (x y : List ℕ) → ReplyEnds r (c ∷ x) → ReplyEnds r (c ∷ y)
reply_first p c x y e = grind (arith, answer_first)

pub replies_clear : Clear Replies
replies_clear = grind (arith, reply_told, one_reply_kind, reply_nil, reply_first)
