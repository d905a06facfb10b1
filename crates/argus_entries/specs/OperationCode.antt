-- Codes of queries, changes and answers: numbers, values and contents from which they can be read
-- again.
use Rattle.std.{proofs.Common.{ap, sym, ◌∙◌}, specs.Coded.{Coded, code_by, coded_bool, coded_option, coded_ℕ, coded_ℤ}}
use Rattle.std.specs.{Coded.coded×, Prelude.{Bool, None, Option, Some, false, if◌then◌else◌, pos, refl, ℕ, ℤ, ◌==◌}}
use Rattle.std.specs.Prelude.{◌≡◌}
use Rattle.argus_contents.specs.{Answer.{PlainAnswer, body, done, flag, num, signal, val}, Change.{store, touch, trim}}
use Rattle.argus_contents.specs.Change.{PlainChange, addh, addl, change_tag, create, reml, remh, set_field, set_low}
use Rattle.argus_contents.specs.{Content.PlainContent, ContentCode.{content_coded, seen, value_back, value_code}}
use Rattle.argus_contents.specs.{Value.{PlainValue, null}, declared.query.Query.{Query, TheVariants.{Bottom, Fetch}}}
use Rattle.argus_contents.specs.declared.query.Query.TheVariants.{Field, High, IsTag, Low, Size, TagValue, Top, Whole}
use Rattle.argus_contents.specs.declared.signal.Signal.{Signal, TheVariants.{Absent, Bounds, Exists, Limits}}
use Rattle.argus_contents.specs.declared.signal.Signal.TheVariants.{NegativeSize, WrongTag}

-- two values that are stored alike are equal
pub value_injective : (v w : PlainValue) → value_code v ≡ value_code w → v ≡ w
value_injective v w e = sym (value_back v) ∙ (ap (λ g. (seen g).0) e ∙ value_back w)

-- so values can be stored
abbrev pub value_coded : Coded PlainValue
value_coded = record { code = value_code; inj = value_injective }

-- a kind, with a number and an index
abbrev pub query_parts : Query → ℕ × (ℕ × ℤ)
query_parts Whole = (0, (0, pos 0))
query_parts (Field i) = (1, (i, pos 0))
query_parts Low = (2, (0, pos 0))
query_parts High = (3, (0, pos 0))
query_parts Size = (4, (0, pos 0))
query_parts (Fetch i) = (5, (0, i))
query_parts Bottom = (6, (0, pos 0))
query_parts Top = (7, (0, pos 0))
query_parts (IsTag t) = (8, (t, pos 0))
query_parts (TagValue t) = (9, (t, pos 0))

-- the query that is stored like this
abbrev pub query_from : ℕ × (ℕ × ℤ) → Query
query_from p =
    if p.0 == 0 then Whole else (if p.0 == 1 then Field p.1.0 else
    (if p.0 == 2 then Low else (if p.0 == 3 then High else
    (if p.0 == 4 then Size else (if p.0 == 5 then Fetch p.1.1 else
    (if p.0 == 6 then Bottom else (if p.0 == 7 then Top else
    (if p.0 == 8 then IsTag p.1.0 else TagValue p.1.0))))))))

-- what was stored is read again
pub query_back : (q : Query) → query_from (query_parts q) ≡ q
query_back Whole = refl
query_back _ = refl

-- so queries can be stored
abbrev pub query_coded : Coded Query
query_coded = code_by (ℕ × (ℕ × ℤ)) (coded× coded_ℕ (coded× coded_ℕ coded_ℤ))
    query_parts query_from query_back

-- a kind, with a number, two indices, a content and a value
abbrev pub ChangeParts : Type 0
ChangeParts = ℕ × (ℕ × ((ℤ × ℤ) × (Option PlainContent × PlainValue)))

-- a change as it is stored: its kind, and its parts
abbrev pub change_parts : PlainChange → ChangeParts
change_parts (create c) = (0, (0, ((pos 0, pos 0), (Some c, null))))
change_parts (set_field i v) = (1, (i, ((pos 0, pos 0), (None, v))))
change_parts (store i v) = (2, (0, ((i, pos 0), (None, v))))
change_parts (addh v) = (3, (0, ((pos 0, pos 0), (None, v))))
change_parts (addl v) = (4, (0, ((pos 0, pos 0), (None, v))))
change_parts remh = (5, (0, ((pos 0, pos 0), (None, null))))
change_parts reml = (6, (0, ((pos 0, pos 0), (None, null))))
change_parts (set_low i) = (7, (0, ((i, pos 0), (None, null))))
change_parts (trim i n) = (8, (0, ((i, n), (None, null))))
change_parts (change_tag t v) = (9, (t, ((pos 0, pos 0), (None, v))))
change_parts touch = (10, (0, ((pos 0, pos 0), (None, null))))

-- the creation that is stored like this
abbrev pub create_from : Option PlainContent → PlainChange
create_from None = touch
create_from (Some c) = create c

-- the change that is stored like this
abbrev pub change_from : ChangeParts → PlainChange
change_from p =
    if p.0 == 0 then create_from p.1.1.1.0 else (if p.0 == 1 then set_field p.1.0 p.1.1.1.1 else
    (if p.0 == 2 then store p.1.1.0.0 p.1.1.1.1 else
    (if p.0 == 3 then addh p.1.1.1.1 else (if p.0 == 4 then addl p.1.1.1.1 else
    (if p.0 == 5 then remh else (if p.0 == 6 then reml else (if p.0 == 7 then set_low p.1.1.0.0 else
    (if p.0 == 8 then trim p.1.1.0.0 p.1.1.0.1 else
    (if p.0 == 9 then change_tag p.1.0 p.1.1.1.1 else touch)))))))))

-- what was stored is read again
pub change_back : (c : PlainChange) → change_from (change_parts c) ≡ c
change_back touch = refl
change_back _ = refl

-- so changes can be stored
abbrev pub change_coded : Coded PlainChange
change_coded =
    code_by ChangeParts (coded× coded_ℕ (coded× coded_ℕ
    (coded× (coded× coded_ℤ coded_ℤ) (coded× (coded_option content_coded) value_coded))))
    change_parts change_from change_back

-- a signal as it is stored: its number
abbrev pub signal_number : Signal → ℕ
signal_number Absent = 0
signal_number Exists = 1
signal_number Bounds = 2
signal_number WrongTag = 3
signal_number NegativeSize = 4
signal_number Limits = 5

-- the signal that is stored like this
abbrev pub signal_from : ℕ → Signal
signal_from n =
    if n == 0 then Absent else (if n == 1 then Exists else
    (if n == 2 then Bounds else (if n == 3 then WrongTag else
    (if n == 4 then NegativeSize else Limits))))

-- what was stored is read again
pub signal_back : (s : Signal) → signal_from (signal_number s) ≡ s
signal_back Absent = refl
signal_back _ = refl

-- so signals can be stored
abbrev pub signal_coded : Coded Signal
signal_coded = code_by ℕ coded_ℕ signal_number signal_from signal_back

-- a kind, with a number, a truth, a value, a content and a signal
abbrev pub AnswerParts : Type 0
AnswerParts = ℕ × (ℤ × (Bool × (PlainValue × (Option PlainContent × Signal))))

-- an answer as it is stored: its kind, and its parts
abbrev pub answer_parts : PlainAnswer → AnswerParts
answer_parts done = (0, (pos 0, (false, (null, (None, Absent)))))
answer_parts (val v) = (1, (pos 0, (false, (v, (None, Absent)))))
answer_parts (num n) = (2, (n, (false, (null, (None, Absent)))))
answer_parts (flag b) = (3, (pos 0, (b, (null, (None, Absent)))))
answer_parts (body c) = (4, (pos 0, (false, (null, (Some c, Absent)))))
answer_parts (signal s) = (5, (pos 0, (false, (null, (None, s)))))

-- the whole content that is stored like this, as an answer
abbrev pub body_from : Option PlainContent → PlainAnswer
body_from None = done
body_from (Some c) = body c

-- the answer that is stored like this
abbrev pub answer_from : AnswerParts → PlainAnswer
answer_from p =
    if p.0 == 0 then done else (if p.0 == 1 then val p.1.1.1.0 else (if p.0 == 2 then num p.1.0 else
    (if p.0 == 3 then flag p.1.1.0 else (if p.0 == 4 then body_from p.1.1.1.1.0 else
    signal p.1.1.1.1.1))))

-- what was stored is read again
pub answer_back : (a : PlainAnswer) → answer_from (answer_parts a) ≡ a
answer_back done = refl
answer_back _ = refl

-- so answers can be stored
abbrev pub answer_coded : Coded PlainAnswer
answer_coded =
    code_by AnswerParts (coded× coded_ℕ (coded× coded_ℤ
    (coded× coded_bool (coded× value_coded (coded× (coded_option content_coded)
    signal_coded)))))
    answer_parts answer_from answer_back
