-- The line of an entry: its number, the call, an arrow and the reply. Action 3 is `a3`, object 2 is
-- `o2`.
use Rattle.std.specs.{Fmt.{decimal, signed_decimal}, Prelude.{List, [], codes, false, true, ℕ, ◌++◌, ◌∷◌}}
use Rattle.argus_contents.specs.Answer.{PlainAnswer, body, done, flag, num, signal, val}
use Rattle.argus_contents.specs.declared.signal.Signal.{Signal, TheVariants.{WrongTag, Absent, Bounds, Exists, Limits}}
use Rattle.argus_contents.specs.declared.signal.Signal.TheVariants.{NegativeSize}
use Rattle.argus_texts.specs.{ContentSpelling.content_spelling, ShapeSpelling.shape_spelling, Spelling.spelling}
use Rattle.argus_entries.specs.Call.{PlainCall, abort, abort_others, alter, ask, begin_nested, begin_sub, begin_top}
use Rattle.argus_entries.specs.{Call.{commit, declare, test_read, test_write}, Entry.PlainEntry}
use Rattle.argus_entries.specs.{OperationSpelling.{change_spelling, query_spelling}, declared.refusal.Refusal.Refusal}
use Rattle.argus_entries.specs.declared.refusal.Refusal.TheVariants.{Conflict, IllTyped, NoAction, NoObject, NoSiblings}
use Rattle.argus_entries.specs.declared.refusal.Refusal.TheVariants.{Over, Suspended, TooDeep, TooMany}
use Rattle.argus_entries.specs.Reply.{PlainReply, answered, begun, object, refused}

-- a word that ends with `a`, the number of an action, and an object
abbrev pub place_spelling : List ℕ → ℕ → ℕ → List ℕ
place_spelling word a o = word ++ decimal a ++ codes " o" ++ decimal o

-- a call: its word, and its arguments
abbrev pub call_spelling : PlainCall → List ℕ
call_spelling (declare shape) = codes "declare " ++ shape_spelling shape
call_spelling begin_top = codes "begin_top"
call_spelling (begin_sub parent) = codes "begin_sub a" ++ decimal parent
call_spelling (begin_nested creator) = codes "begin_nested a" ++ decimal creator
call_spelling (commit a) = codes "commit a" ++ decimal a
call_spelling (abort a) = codes "abort a" ++ decimal a
call_spelling (abort_others a) = codes "abort_others a" ++ decimal a
call_spelling (ask a o query) =
    place_spelling (codes "ask a") a o ++ codes " " ++ query_spelling query
call_spelling (alter a o change) =
    place_spelling (codes "alter a") a o ++ codes " " ++ change_spelling change
call_spelling (test_read a o) = place_spelling (codes "test_read a") a o
call_spelling (test_write a o) = place_spelling (codes "test_write a") a o

-- a signal, by its name
abbrev pub signal_spelling : Signal → List ℕ
signal_spelling Absent = codes "signal absent"
signal_spelling Exists = codes "signal exists"
signal_spelling Bounds = codes "signal bounds"
signal_spelling WrongTag = codes "signal wrong_tag"
signal_spelling NegativeSize = codes "signal negative_size"
signal_spelling Limits = codes "signal limits"

-- what an operation returns
abbrev pub answer_spelling : PlainAnswer → List ℕ
answer_spelling done = codes "done"
answer_spelling (val v) = codes "val " ++ spelling v
answer_spelling (num n) = codes "num " ++ signed_decimal n
answer_spelling (flag true) = codes "flag true"
answer_spelling (flag false) = codes "flag false"
answer_spelling (body c) = codes "body " ++ content_spelling c
answer_spelling (signal s) = signal_spelling s

-- the name of a refusal
abbrev pub refusal_name : Refusal → List ℕ
refusal_name NoAction = codes "NoAction"
refusal_name Over = codes "Over"
refusal_name Suspended = codes "Suspended"
refusal_name NoObject = codes "NoObject"
refusal_name IllTyped = codes "IllTyped"
refusal_name Conflict = codes "Conflict"
refusal_name TooDeep = codes "TooDeep"
refusal_name TooMany = codes "TooMany"
refusal_name NoSiblings = codes "NoSiblings"

-- a reply: a number that was given, an answer, or why the call was refused
abbrev pub reply_spelling : PlainReply → List ℕ
reply_spelling (object o) = codes "o" ++ decimal o
reply_spelling (begun a) = codes "a" ++ decimal a
reply_spelling (answered a) = answer_spelling a
reply_spelling (refused r) = codes "refused " ++ refusal_name r

-- the line of the entry with this number, without its end
abbrev pub entry_spelling : ℕ → PlainEntry → List ℕ
entry_spelling at e =
    decimal at ++ codes " " ++ call_spelling e.call ++ codes " -> " ++ reply_spelling e.reply

-- the line of the entry with this number, with its end
abbrev pub entry_line : ℕ → PlainEntry → List ℕ
entry_line at e = entry_spelling at e ++ 10 ∷ []
