-- What queries, changes, answers, replies and calls are read from: their parts cover them.
use Rattle.std.proofs.Common.{◌≡◌, ℕ, inl, inr, true, false, List, [], ◌∷◌, ◌++◌, arith, refl, sym, ap, ◌∙◌}
use Rattle.std.proofs.Common.{append_assoc}
use Rattle.std.specs.{Fmt.{decimal, signed_decimal}, Prelude.codes}
use Rattle.argus_contents.specs.{Answer.PlainAnswer, Change.PlainChange, declared.query.Query.Query}
use Rattle.argus_contents.specs.declared.signal.Signal.{Signal, TheVariants.{WrongTag, Absent, Bounds, Exists, Limits}}
use Rattle.argus_contents.specs.declared.signal.Signal.TheVariants.{NegativeSize}
use Rattle.argus_texts.specs.{Language.{FormOf, Language, Starts}, Spelling.spelling}
use Rattle.argus_texts.proofs.Stops.{Behind}
use Rattle.argus_entries.specs.{Reply.PlainReply, declared.refusal.Refusal.{Refusal, TheVariants.{Conflict, IllTyped}}}
use Rattle.argus_entries.specs.declared.refusal.Refusal.TheVariants.{NoAction, NoObject, NoSiblings, Over, Suspended}
use Rattle.argus_entries.specs.declared.refusal.Refusal.TheVariants.{TooDeep, TooMany}
use Rattle.argus_reading.specs.{Operations.{ChangeParts, Changes, Queries, QueryParts}, Replies.SignalWords}
use Rattle.argus_reading.specs.Replies.{AnswerParts, Answers, RefusalParts, Refusals, Replies, ReplyParts, Signals}
use Rattle.argus_contents.specs.Answer as answer
use Rattle.argus_contents.specs.Change as change
use Rattle.argus_contents.specs.declared.query.Query.TheVariants as query
use Rattle.argus_entries.specs.Reply as reply

-- each form of L is one of M, and what a form of M begins, one of L begins
pub record Covers (L M : Language) : Type 0 where
  pub form : (t : L.Thing) → L.Good t → FormOf M (L.form t)
  pub start : (t : M.Thing) (rest : List ℕ) → M.Good t → M.Ends t rest → Starts L (M.form t ++ rest)

along : (M : Language) (x y : List ℕ) → x ≡ y → FormOf M y → FormOf M x
along M x y e f = record { thing = f.thing; good = f.good; is = e ∙ f.is }

along_start : (L : Language) (x y : List ℕ) → x ≡ y → Starts L y → Starts L x
along_start L x y e s = grind arith

pub covered : (L M : Language) → Covers L M → Behind [] L M
covered L M c = grind (arith, along, along_start)

-- two things with a blank between
spaced : (w s : List ℕ) → w ++ codes " " ++ s ≡ w ++ 32 ∷ s
spaced w s = append_assoc w (32 ∷ []) s

-- the same with the rest
spaced_rest : (w s rest : List ℕ) → (w ++ codes " " ++ s) ++ rest ≡ (w ++ 32 ∷ s) ++ rest
spaced_rest w s rest = ap (λ (z : List ℕ). z ++ rest) (spaced w s)

-- a form that is written otherwise
pub same : (L : Language) (t : L.Thing) (x rest : List ℕ) → L.Good t → L.Ends t rest → x ≡ L.form t ++ rest → Starts L x
same L t x rest g e i = record { thing = t; rest = rest; reads = record { good = g; ends = e; is = i } }

-- QUERIES

query_form : (t : QueryParts.Thing) → QueryParts.Good t → FormOf Queries (QueryParts.form t)
query_form (inl (inl u)) g = record { thing = query.Whole; good = tt; is = refl }
query_form (inl (inr (inl u))) g = record { thing = query.Low; good = tt; is = refl }
query_form (inl (inr (inr (inl u)))) g = record { thing = query.High; good = tt; is = refl }
query_form (inl (inr (inr (inr (inl u))))) g = record { thing = query.Size; good = tt; is = refl }
query_form (inl (inr (inr (inr (inr (inl u)))))) g = record { thing = query.Bottom; good = tt; is = refl }
query_form (inl (inr (inr (inr (inr (inr u)))))) g = record { thing = query.Top; good = tt; is = refl }
query_form (inr (inl i)) g = record { thing = query.Field i; good = omega (arith, g.1); is = refl }
query_form (inr (inr (inl i))) g = record { thing = query.Fetch i; good = g; is = refl }
query_form (inr (inr (inr (inl t)))) g = record { thing = query.IsTag t; good = omega (arith, g.1); is = refl }
query_form (inr (inr (inr (inr t)))) g = record { thing = query.TagValue t; good = omega (arith, g.1); is = refl }

query_start : (q : Query) (rest : List ℕ) → Queries.Good q → Queries.Ends q rest
    → Starts QueryParts (Queries.form q ++ rest)
query_start query.Whole rest g e = same QueryParts (inl (inl tt)) _ rest tt tt refl
query_start query.Low rest g e = same QueryParts (inl (inr (inl tt))) _ rest tt tt refl
query_start query.High rest g e = same QueryParts (inl (inr (inr (inl tt)))) _ rest tt tt refl
query_start query.Size rest g e = same QueryParts (inl (inr (inr (inr (inl tt))))) _ rest tt tt refl
query_start query.Bottom rest g e = same QueryParts (inl (inr (inr (inr (inr (inl tt)))))) _ rest tt tt refl
query_start query.Top rest g e = same QueryParts (inl (inr (inr (inr (inr (inr tt)))))) _ rest tt tt refl
query_start (query.Field i) rest g e = same QueryParts (inr (inl i)) _ rest (omega arith, omega arith) e refl
query_start (query.Fetch i) rest g e = same QueryParts (inr (inr (inl i))) _ rest g e refl
query_start (query.IsTag t) rest g e =
    same QueryParts (inr (inr (inr (inl t)))) _ rest (omega arith, omega arith) e refl
query_start (query.TagValue t) rest g e =
    same QueryParts (inr (inr (inr (inr t)))) _ rest (omega arith, omega arith) e refl

pub queries : Covers QueryParts Queries
queries = record { form = query_form; start = query_start }

-- CHANGES

change_form : (t : ChangeParts.Thing) → ChangeParts.Good t → FormOf Changes (ChangeParts.form t)
change_form (inl (inl u)) g = record { thing = change.remh; good = tt; is = refl }
change_form (inl (inr (inl u))) g = record { thing = change.reml; good = tt; is = refl }
change_form (inl (inr (inr u))) g = record { thing = change.touch; good = tt; is = refl }
change_form (inr (inl (inl c))) g = record { thing = change.create c; good = g; is = refl }
change_form (inr (inl (inr (inl v)))) g = record { thing = change.addh v; good = g; is = refl }
change_form (inr (inl (inr (inr (inl v))))) g = record { thing = change.addl v; good = g; is = refl }
change_form (inr (inl (inr (inr (inr i))))) g = record { thing = change.set_low i; good = g; is = refl }
change_form (inr (inr (inl p))) g = record {
  thing = change.set_field p.0 p.1;
  good = (omega (arith, g.0.1), g.1);
  is = sym (spaced (codes "set_field " ++ decimal p.0) (spelling p.1));
}
change_form (inr (inr (inr (inl p)))) g = record {
  thing = change.store p.0 p.1;
  good = (g.0, g.1);
  is = sym (spaced (codes "store " ++ signed_decimal p.0) (spelling p.1));
}
change_form (inr (inr (inr (inr (inl p))))) g = record {
  thing = change.trim p.0 p.1;
  good = (g.0, g.1);
  is = sym (spaced (codes "trim " ++ signed_decimal p.0) (signed_decimal p.1));
}
change_form (inr (inr (inr (inr (inr p))))) g = record {
  thing = change.change_tag p.0 p.1;
  good = (omega (arith, g.0.1), g.1);
  is = sym (spaced (codes "change_tag " ++ decimal p.0) (spelling p.1));
}

change_start : (t : PlainChange) (rest : List ℕ) → Changes.Good t → Changes.Ends t rest
    → Starts ChangeParts (Changes.form t ++ rest)
change_start change.remh rest g e = same ChangeParts (inl (inl tt)) _ rest tt tt refl
change_start change.reml rest g e = same ChangeParts (inl (inr (inl tt))) _ rest tt tt refl
change_start change.touch rest g e = same ChangeParts (inl (inr (inr tt))) _ rest tt tt refl
change_start (change.create c) rest g e = same ChangeParts (inr (inl (inl c))) _ rest g e refl
change_start (change.addh v) rest g e = same ChangeParts (inr (inl (inr (inl v)))) _ rest g e refl
change_start (change.addl v) rest g e = same ChangeParts (inr (inl (inr (inr (inl v))))) _ rest g e refl
change_start (change.set_low i) rest g e = same ChangeParts (inr (inl (inr (inr (inr i))))) _ rest g e refl
change_start (change.set_field i v) rest g e =
    same ChangeParts (inr (inr (inl (i, v)))) _ rest ((omega arith, omega (arith, g.0)), g.1) e (spaced_rest
    (codes "set_field " ++ decimal i) (spelling v) rest)
change_start (change.store i v) rest g e =
    same ChangeParts (inr (inr (inr (inl (i, v))))) _ rest (g.0, g.1) e (spaced_rest
    (codes "store " ++ signed_decimal i) (spelling v) rest)
change_start (change.trim i n) rest g e =
    same ChangeParts (inr (inr (inr (inr (inl (i, n)))))) _ rest (g.0, g.1) e (spaced_rest
    (codes "trim " ++ signed_decimal i) (signed_decimal n) rest)
change_start (change.change_tag t v) rest g e =
    same ChangeParts (inr (inr (inr (inr (inr (t, v)))))) _ rest ((omega arith, omega (arith, g.0)), g.1) e
    (spaced_rest (codes "change_tag " ++ decimal t) (spelling v) rest)

pub changes : Covers ChangeParts Changes
changes = record { form = change_form; start = change_start }

-- SIGNALS

signal_form : (t : SignalWords.Thing) → SignalWords.Good t → FormOf Signals (SignalWords.form t)
signal_form p g = grind arith

signal_start : (t : Signal) (rest : List ℕ) → Signals.Good t → Signals.Ends t rest
    → Starts SignalWords (Signals.form t ++ rest)
signal_start Absent rest g e = same SignalWords (inl tt) _ rest tt tt refl
signal_start Exists rest g e = same SignalWords (inr (inl tt)) _ rest tt tt refl
signal_start Bounds rest g e = same SignalWords (inr (inr (inl tt))) _ rest tt tt refl
signal_start WrongTag rest g e = same SignalWords (inr (inr (inr (inl tt)))) _ rest tt tt refl
signal_start NegativeSize rest g e = same SignalWords (inr (inr (inr (inr (inl tt))))) _ rest tt tt refl
signal_start Limits rest g e = same SignalWords (inr (inr (inr (inr (inr tt))))) _ rest tt tt refl

pub signals : Covers SignalWords Signals
signals = record { form = signal_form; start = signal_start }

-- REFUSALS

refusal_form : (t : RefusalParts.Thing) → RefusalParts.Good t → FormOf Refusals (RefusalParts.form t)
refusal_form (inl (inl u)) g = record { thing = NoAction; good = tt; is = refl }
refusal_form (inl (inr (inl u))) g = record { thing = Over; good = tt; is = refl }
refusal_form (inl (inr (inr (inl u)))) g = record { thing = Suspended; good = tt; is = refl }
refusal_form (inl (inr (inr (inr (inl u))))) g = record { thing = NoObject; good = tt; is = refl }
refusal_form (inl (inr (inr (inr (inr u))))) g = record { thing = IllTyped; good = tt; is = refl }
refusal_form (inr (inl u)) g = record { thing = Conflict; good = tt; is = refl }
refusal_form (inr (inr (inl u))) g = record { thing = TooDeep; good = tt; is = refl }
refusal_form (inr (inr (inr (inl u)))) g = record { thing = TooMany; good = tt; is = refl }
refusal_form (inr (inr (inr (inr u)))) g = record { thing = NoSiblings; good = tt; is = refl }

refusal_start : (t : Refusal) (rest : List ℕ) → Refusals.Good t → Refusals.Ends t rest
    → Starts RefusalParts (Refusals.form t ++ rest)
refusal_start NoAction rest g e = same RefusalParts (inl (inl tt)) _ rest tt tt refl
refusal_start Over rest g e = same RefusalParts (inl (inr (inl tt))) _ rest tt tt refl
refusal_start Suspended rest g e = same RefusalParts (inl (inr (inr (inl tt)))) _ rest tt tt refl
refusal_start NoObject rest g e = same RefusalParts (inl (inr (inr (inr (inl tt))))) _ rest tt tt refl
refusal_start IllTyped rest g e = same RefusalParts (inl (inr (inr (inr (inr tt))))) _ rest tt tt refl
refusal_start Conflict rest g e = same RefusalParts (inr (inl tt)) _ rest tt tt refl
refusal_start TooDeep rest g e = same RefusalParts (inr (inr (inl tt))) _ rest tt tt refl
refusal_start TooMany rest g e = same RefusalParts (inr (inr (inr (inl tt)))) _ rest tt tt refl
refusal_start NoSiblings rest g e = same RefusalParts (inr (inr (inr (inr tt)))) _ rest tt tt refl

pub refusals : Covers RefusalParts Refusals
refusals = record { form = refusal_form; start = refusal_start }

-- ANSWERS

answer_form : (t : AnswerParts.Thing) → AnswerParts.Good t → FormOf Answers (AnswerParts.form t)
answer_form (inl (inl u)) g = record { thing = answer.done; good = tt; is = refl }
answer_form (inl (inr (inl u))) g = record { thing = (answer.flag true); good = tt; is = refl }
answer_form (inl (inr (inr (inl u)))) g = record { thing = (answer.flag false); good = tt; is = refl }
answer_form (inl (inr (inr (inr s)))) g = record { thing = answer.signal s; good = tt; is = refl }
answer_form (inr (inl v)) g = record { thing = answer.val v; good = g; is = refl }
answer_form (inr (inr (inl n))) g = record { thing = answer.num n; good = g; is = refl }
answer_form (inr (inr (inr c))) g = record { thing = answer.body c; good = g; is = refl }

answer_start : (t : PlainAnswer) (rest : List ℕ) → Answers.Good t → Answers.Ends t rest
    → Starts AnswerParts (Answers.form t ++ rest)
answer_start answer.done rest g e = same AnswerParts (inl (inl tt)) _ rest tt tt refl
answer_start (answer.flag true) rest g e = same AnswerParts (inl (inr (inl tt))) _ rest tt tt refl
answer_start (answer.flag false) rest g e = same AnswerParts (inl (inr (inr (inl tt)))) _ rest tt tt refl
answer_start (answer.signal s) rest g e = same AnswerParts (inl (inr (inr (inr s)))) _ rest tt tt refl
answer_start (answer.val v) rest g e = same AnswerParts (inr (inl v)) _ rest g e refl
answer_start (answer.num n) rest g e = same AnswerParts (inr (inr (inl n))) _ rest g e refl
answer_start (answer.body c) rest g e = same AnswerParts (inr (inr (inr c))) _ rest g e refl

pub answers : Covers AnswerParts Answers
answers = record { form = answer_form; start = answer_start }

-- REPLIES

reply_form : (t : ReplyParts.Thing) → ReplyParts.Good t → FormOf Replies (ReplyParts.form t)
reply_form (inl o) g = record { thing = reply.object o; good = omega (arith, g.1); is = refl }
reply_form (inr (inl a)) g = record { thing = reply.begun a; good = omega (arith, g.1); is = refl }
reply_form (inr (inr (inl r))) g = record { thing = reply.refused r; good = tt; is = refl }
reply_form (inr (inr (inr a))) g = record { thing = reply.answered a; good = g; is = refl }

reply_start : (t : PlainReply) (rest : List ℕ) → Replies.Good t → Replies.Ends t rest
    → Starts ReplyParts (Replies.form t ++ rest)
reply_start (reply.object o) rest g e = same ReplyParts (inl o) _ rest (omega arith, omega arith) e refl
reply_start (reply.begun a) rest g e = same ReplyParts (inr (inl a)) _ rest (omega arith, omega arith) e refl
reply_start (reply.refused r) rest g e = same ReplyParts (inr (inr (inl r))) _ rest tt tt refl
reply_start (reply.answered a) rest g e = same ReplyParts (inr (inr (inr a))) _ rest g e refl

pub replies : Covers ReplyParts Replies
replies = record { form = reply_form; start = reply_start }
