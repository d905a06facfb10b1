-- The words with which a text begins tell what kind of query, change, call, answer or reply it is, and which signal or
-- refusal.
use Rattle.std.proofs.{Common.{arith, Bool, List, get_or, refl, true, ℕ, ◌+◌, ◌++◌, ◌≡◌}, lemmas.Bool.Decides.nat_tests}
use Rattle.std.specs.Prelude.{if◌then◌else◌, ◌==◌}
use Rattle.argus_contents.specs.{Answer.PlainAnswer, Change.PlainChange, declared.query.Query.Query}
use Rattle.argus_contents.specs.declared.signal.Signal.{Signal, TheVariants.{WrongTag, Absent, Bounds, Exists, Limits}}
use Rattle.argus_contents.specs.declared.signal.Signal.TheVariants.{NegativeSize}
use Rattle.argus_entries.specs.{Call.PlainCall, EntrySpelling.{signal_spelling, answer_spelling, call_spelling}}
use Rattle.argus_entries.specs.{EntrySpelling.{refusal_name, reply_spelling}, Reply.PlainReply}
use Rattle.argus_entries.specs.{OperationSpelling.{change_spelling, query_spelling}, declared.refusal.Refusal.Refusal}
use Rattle.argus_entries.specs.declared.refusal.Refusal.TheVariants.{Conflict, IllTyped, NoAction, NoObject, NoSiblings}
use Rattle.argus_entries.specs.declared.refusal.Refusal.TheVariants.{Over, Suspended, TooDeep, TooMany}
use Rattle.argus_contents.specs.Answer as answer
use Rattle.argus_contents.specs.Change as change
use Rattle.argus_contents.specs.declared.query.Query.TheVariants as query
use Rattle.argus_entries.specs.Call as call
use Rattle.argus_entries.specs.Reply as reply

-- QUERIES

-- what tells the words of queries apart
abbrev query_key : List ℕ → ℕ
query_key t =
    if get_or t 0 0 == 102 then 256 + get_or t 1 0 else if get_or t 0 0 == 116 then 512 + get_or t 1 0 else get_or t 0 0

-- a number for each kind
abbrev pub query_kind : Query → ℕ
query_kind query.Whole = 119
query_kind (query.Field i) = 361
query_kind query.Low = 108
query_kind query.High = 104
query_kind query.Size = 115
query_kind (query.Fetch i) = 357
query_kind query.Bottom = 98
query_kind query.Top = 623
query_kind (query.IsTag t) = 105
query_kind (query.TagValue t) = 609

query_key_is : (q : Query) (x : List ℕ) → query_key (query_spelling q ++ x) ≡ query_kind q
query_key_is q x = grind (arith, nat_tests)

-- queries whose texts begin alike are of one kind
pub one_query_kind : (one other : Query) (behind behind_other : List ℕ)
    → query_spelling one ++ behind ≡ query_spelling other ++ behind_other
    → (query_kind one == query_kind other) ≡ true
one_query_kind one other behind behind_other same = grind (arith, nat_tests, query_key_is)

-- CHANGES

-- what tells the words of changes apart
abbrev change_key : List ℕ → ℕ
change_key t =
    if get_or t 0 0 == 99 then 256 + get_or t 1 0 else if get_or t 0 0 == 97 then 512 + get_or t 3 0 else
    if get_or t 0 0 == 114 then 768 + get_or t 3 0 else if get_or t 0 0 == 116 then 1024 + get_or t 1 0 else
    if get_or t 1 0 == 116 then 1 else get_or t 4 0

-- a number for each kind
abbrev pub change_kind : PlainChange → ℕ
change_kind (change.create c) = 370
change_kind (change.set_field i v) = 102
change_kind (change.store i v) = 1
change_kind (change.addh v) = 616
change_kind (change.addl v) = 620
change_kind change.remh = 872
change_kind change.reml = 876
change_kind (change.set_low i) = 108
change_kind (change.trim i n) = 1138
change_kind (change.change_tag t v) = 360
change_kind change.touch = 1135

change_key_is : (c : PlainChange) (x : List ℕ) → change_key (change_spelling c ++ x) ≡ change_kind c
change_key_is c x = grind (arith, nat_tests)

-- changes whose texts begin alike are of one kind
pub one_change_kind : (one other : PlainChange) (behind behind_other : List ℕ)
    → change_spelling one ++ behind ≡ change_spelling other ++ behind_other
    → (change_kind one == change_kind other) ≡ true
one_change_kind one other behind behind_other same = grind (arith, nat_tests, change_key_is)

-- CALLS

-- what tells the words of calls apart
abbrev pub call_key : List ℕ → ℕ
call_key t =
    if get_or t 0 0 == 98 then 256 + get_or t 6 0 else if get_or t 0 0 == 116 then 512 + get_or t 5 0 else
    if get_or t 0 0 == 97 then (if get_or t 1 0 == 98 then 768 + get_or t 5 0 else get_or t 1 0) else get_or t 0 0

-- a number for each kind
abbrev pub call_kind : PlainCall → ℕ
call_kind (call.declare s) = 100
call_kind call.begin_top = 372
call_kind (call.begin_sub a) = 371
call_kind (call.begin_nested a) = 366
call_kind (call.commit a) = 99
call_kind (call.abort a) = 800
call_kind (call.abort_others a) = 863
call_kind (call.ask a o q) = 115
call_kind (call.alter a o c) = 108
call_kind (call.test_read a o) = 626
call_kind (call.test_write a o) = 631

-- what begins with a call has its number
pub call_key_is : (c : PlainCall) (x : List ℕ) → call_key (call_spelling c ++ x) ≡ call_kind c
call_key_is c x = grind (arith, nat_tests)

-- calls whose texts begin alike are of one kind
pub one_call_kind : (one other : PlainCall) (behind behind_other : List ℕ)
    → call_spelling one ++ behind ≡ call_spelling other ++ behind_other
    → (call_kind one == call_kind other) ≡ true
one_call_kind one other behind behind_other same = grind (arith, nat_tests, call_key_is)

-- SIGNALS AND REFUSALS

-- a signal, back from its words
abbrev pub signal_at : List ℕ → Signal
signal_at t =
    if get_or t 7 0 == 97 then Absent else if get_or t 7 0 == 101 then Exists else
    if get_or t 7 0 == 98 then Bounds else
    if get_or t 7 0 == 119 then WrongTag else if get_or t 7 0 == 110 then NegativeSize else Limits

-- what begins with a signal gives it back
pub signal_back : (s : Signal) (x : List ℕ) → signal_at (signal_spelling s ++ x) ≡ s
signal_back Absent x = refl
signal_back _ x = refl

-- a refusal, back from its name
abbrev pub refusal_at : List ℕ → Refusal
refusal_at t =
    if get_or t 0 0 == 79 then Over else if get_or t 0 0 == 83 then Suspended else
    if get_or t 0 0 == 73 then IllTyped else
    if get_or t 0 0 == 67 then Conflict else if get_or t 0 0 ==
    84 then (if get_or t 3 0 == 68 then TooDeep else TooMany) else
    if get_or t 2 0 == 65 then NoAction else if get_or t 2 0 == 79 then NoObject else NoSiblings

-- what begins with a refusal's name gives it back
pub refusal_back : (r : Refusal) (x : List ℕ) → refusal_at (refusal_name r ++ x) ≡ r
refusal_back r x = grind (arith, nat_tests)

-- ANSWERS

-- what tells the words of answers apart
abbrev answer_key : List ℕ → ℕ
answer_key t = get_or t 0 0

-- a number for each kind
abbrev pub answer_kind : PlainAnswer → ℕ
answer_kind answer.done = 100
answer_kind (answer.val v) = 118
answer_kind (answer.num n) = 110
answer_kind (answer.flag b) = 102
answer_kind (answer.body c) = 98
answer_kind (answer.signal s) = 115

answer_key_is : (a : PlainAnswer) (x : List ℕ) → answer_key (answer_spelling a ++ x) ≡ answer_kind a
answer_key_is a x = grind (arith, nat_tests)

-- answers whose texts begin alike are of one kind
pub one_answer_kind : (one other : PlainAnswer) (behind behind_other : List ℕ)
    → answer_spelling one ++ behind ≡ answer_spelling other ++ behind_other
    → (answer_kind one == answer_kind other) ≡ true
one_answer_kind one other behind behind_other same = grind (arith, nat_tests, answer_key_is)

-- a truth, back from its word
abbrev pub flag_at : List ℕ → Bool
flag_at t = get_or t 5 0 == 116

-- what begins with a truth's word gives it back
pub flag_back : (b : Bool) (x : List ℕ) → flag_at (answer_spelling (answer.flag b) ++ x) ≡ b
flag_back b x = grind (arith, nat_tests)

-- REPLIES

-- what tells the kinds of replies apart
abbrev reply_key : List ℕ → ℕ
reply_key t = if get_or t 0 0 == 111 then 1 else if get_or t 0 0 == 97 then 2 else if get_or t 0 0 == 114 then 3 else 4

-- a number for each kind
abbrev pub reply_kind : PlainReply → ℕ
reply_kind (reply.object o) = 1
reply_kind (reply.begun a) = 2
reply_kind (reply.answered a) = 4
reply_kind (reply.refused r) = 3

reply_key_is : (r : PlainReply) (x : List ℕ) → reply_key (reply_spelling r ++ x) ≡ reply_kind r
reply_key_is r x = grind (arith, nat_tests)

-- replies whose texts begin alike are of one kind
pub one_reply_kind : (one other : PlainReply) (behind behind_other : List ℕ)
    → reply_spelling one ++ behind ≡ reply_spelling other ++ behind_other
    → (reply_kind one == reply_kind other) ≡ true
one_reply_kind one other behind behind_other same = grind (arith, nat_tests, reply_key_is)
