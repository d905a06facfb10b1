-- The code of a plain entry, which a model whose value holds entries needs.
use Rattle.std.specs.{Coded.{Coded, code_by, coded_option, coded_ℕ, coded×}, Prelude.{None, Option, Some}}
use Rattle.std.specs.Prelude.{if◌then◌else◌, refl, ℕ, ◌==◌, ◌≡◌}
use Rattle.argus_contents.specs.{Answer.{PlainAnswer, done}, Change.{PlainChange, touch}, Shape.PlainShape}
use Rattle.argus_contents.specs.{ShapeCode.shape_coded, declared.query.Query.{Query, TheVariants.Whole}}
use Rattle.argus_entries.specs.Call.{PlainCall, abort, abort_others, alter, ask, begin_nested, begin_sub, begin_top}
use Rattle.argus_entries.specs.{Call.{commit, declare, test_read, test_write}, Entry.PlainEntry}
use Rattle.argus_entries.specs.{OperationCode.{answer_coded, change_coded, query_coded}, Reply.{PlainReply, answered}}
use Rattle.argus_entries.specs.{Reply.{begun, object, refused}, declared.refusal.Refusal.Refusal}
use Rattle.argus_entries.specs.declared.refusal.Refusal.TheVariants.{Conflict, IllTyped, NoAction, NoObject, NoSiblings}
use Rattle.argus_entries.specs.declared.refusal.Refusal.TheVariants.{Over, Suspended, TooDeep, TooMany}

-- a refusal as it is stored: its number
abbrev pub refusal_number : Refusal → ℕ
refusal_number NoAction = 1
refusal_number Over = 2
refusal_number Suspended = 3
refusal_number NoObject = 4
refusal_number IllTyped = 5
refusal_number Conflict = 6
refusal_number TooDeep = 7
refusal_number TooMany = 8
refusal_number NoSiblings = 9

-- the refusal that is stored like this
abbrev pub refusal_from : ℕ → Refusal
refusal_from n =
    if n == 1 then NoAction else (if n == 2 then Over else
    (if n == 3 then Suspended else (if n == 4 then NoObject else
    (if n == 5 then IllTyped else (if n == 6 then Conflict else
    (if n == 7 then TooDeep else (if n == 8 then TooMany else NoSiblings)))))))

-- what was stored is read again
pub refusal_back : (r : Refusal) → refusal_from (refusal_number r) ≡ r
refusal_back NoAction = refl
refusal_back _ = refl

-- so refusals can be stored
abbrev pub refusal_coded : Coded Refusal
refusal_coded = code_by ℕ coded_ℕ refusal_number refusal_from refusal_back

-- a kind, with a number, an answer and a refusal
abbrev pub ReplyParts : Type 0
ReplyParts = ℕ × (ℕ × (PlainAnswer × Refusal))

-- a reply as it is stored: its kind, and its parts
abbrev pub reply_parts : PlainReply → ReplyParts
reply_parts (object o) = (0, (o, (done, NoAction)))
reply_parts (begun a) = (1, (a, (done, NoAction)))
reply_parts (answered a) = (2, (0, (a, NoAction)))
reply_parts (refused r) = (3, (0, (done, r)))

-- the reply that is stored like this
abbrev pub reply_from : ReplyParts → PlainReply
reply_from p = if p.0 == 0 then object p.1.0 else
    (if p.0 == 1 then begun p.1.0 else (if p.0 == 2 then answered p.1.1.0 else refused p.1.1.1))

-- what was stored is read again
pub reply_back : (r : PlainReply) → reply_from (reply_parts r) ≡ r
reply_back (object o) = refl
reply_back _ = refl

-- so replies can be stored
abbrev pub reply_coded : Coded PlainReply
reply_coded = code_by ReplyParts (coded× coded_ℕ
    (coded× coded_ℕ (coded× answer_coded refusal_coded))) reply_parts reply_from reply_back

-- a kind, with an action, an object, a shape, a query and a change
abbrev pub CallParts : Type 0
CallParts = ℕ × ((ℕ × ℕ) × (Option PlainShape × (Query × PlainChange)))

-- a call as it is stored: its kind, and its parts
abbrev pub call_parts : PlainCall → CallParts
call_parts (declare s) = (0, ((0, 0), (Some s, (Whole, touch))))
call_parts begin_top = (1, ((0, 0), (None, (Whole, touch))))
call_parts (begin_sub p) = (2, ((p, 0), (None, (Whole, touch))))
call_parts (begin_nested c) = (3, ((c, 0), (None, (Whole, touch))))
call_parts (commit a) = (4, ((a, 0), (None, (Whole, touch))))
call_parts (abort a) = (5, ((a, 0), (None, (Whole, touch))))
call_parts (abort_others a) = (6, ((a, 0), (None, (Whole, touch))))
call_parts (ask a o q) = (7, ((a, o), (None, (q, touch))))
call_parts (alter a o c) = (8, ((a, o), (None, (Whole, c))))
call_parts (test_read a o) = (9, ((a, o), (None, (Whole, touch))))
call_parts (test_write a o) = (10, ((a, o), (None, (Whole, touch))))

-- the declaration that is stored like this
abbrev pub declare_from : Option PlainShape → PlainCall
declare_from None = begin_top
declare_from (Some s) = declare s

-- the call that is stored like this
abbrev pub call_from : CallParts → PlainCall
call_from p =
    if p.0 == 0 then declare_from p.1.1.0 else (if p.0 == 1 then begin_top else
    (if p.0 == 2 then begin_sub p.1.0.0 else
    (if p.0 == 3 then begin_nested p.1.0.0 else (if p.0 == 4 then commit p.1.0.0 else
    (if p.0 == 5 then abort p.1.0.0 else
    (if p.0 == 6 then abort_others p.1.0.0 else (if p.0 == 7 then ask p.1.0.0 p.1.0.1 p.1.1.1.0 else
    (if p.0 == 8 then alter p.1.0.0 p.1.0.1 p.1.1.1.1 else
    (if p.0 == 9 then test_read p.1.0.0 p.1.0.1 else
    test_write p.1.0.0 p.1.0.1)))))))))

-- what was stored is read again
pub call_back : (c : PlainCall) → call_from (call_parts c) ≡ c
call_back begin_top = refl
call_back _ = refl

-- so calls can be stored
abbrev pub call_coded : Coded PlainCall
call_coded =
    code_by CallParts (coded× coded_ℕ (coded× (coded× coded_ℕ coded_ℕ)
    (coded× (coded_option shape_coded) (coded× query_coded change_coded))))
    call_parts call_from call_back

-- so entries can be stored
abbrev pub entry_coded : Coded PlainEntry
entry_coded =
    code_by (PlainCall × PlainReply) (coded× call_coded reply_coded) (λ e. (e.call, e.reply))
    (λ p. record { call = p.0; reply = p.1 }) (λ _. refl)
