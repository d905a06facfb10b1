-- The laws of lines, and the entries that they are about: those that a program can hold.
use Rattle.std.specs.Prelude.{ℕ, ◌<◌, ◌^◌, ◌≡◌, true}
use Rattle.argus_contents.specs.{Answer.PlainAnswer, Change.PlainChange, Fitting.change_suits, Shape.IsMakeable}
use Rattle.argus_contents.specs.{Shape.PlainShape, declared.{limits.TheConstants.MAX_VALUE_DEPTH, query.Query.Query}}
use Rattle.argus_texts.specs.{ContentSpelling.PartsWithin, ShapeSpelling.HasNames, Spelling.{IsI64, Within}}
use Rattle.argus_entries.specs.{Call.PlainCall, Entry.PlainEntry, EntrySpelling.entry_spelling, Reply.PlainReply}
use Rattle.argus_contents.specs.Answer as answer
use Rattle.argus_contents.specs.Change as change
use Rattle.argus_contents.specs.declared.query.Query.TheVariants as query
use Rattle.argus_entries.specs.Call as call
use Rattle.argus_entries.specs.Reply as reply

-- a query whose numbers are in range
abbrev pub QueryWithin : Query → Type 0
QueryWithin (query.Field i) = i < 2 ^ 8
QueryWithin (query.Fetch i) = IsI64 i
QueryWithin (query.IsTag t) = t < 2 ^ 8
QueryWithin (query.TagValue t) = t < 2 ^ 8
QueryWithin query.Whole = Unit {0}
QueryWithin query.Low = Unit {0}
QueryWithin query.High = Unit {0}
QueryWithin query.Size = Unit {0}
QueryWithin query.Bottom = Unit {0}
QueryWithin query.Top = Unit {0}

-- a change whose numbers are in range, with values of depth at most k
abbrev pub ChangeWithin : ℕ → PlainChange → Type 0
ChangeWithin k (change.create c) = PartsWithin k c
ChangeWithin k (change.set_field i v) = (i < 2 ^ 8) × Within k v
ChangeWithin k (change.store i v) = IsI64 i × Within k v
ChangeWithin k (change.addh v) = Within k v
ChangeWithin k (change.addl v) = Within k v
ChangeWithin k (change.set_low i) = IsI64 i
ChangeWithin k (change.trim i n) = IsI64 i × IsI64 n
ChangeWithin k (change.change_tag t v) = (t < 2 ^ 8) × Within k v
ChangeWithin k change.remh = Unit {0}
ChangeWithin k change.reml = Unit {0}
ChangeWithin k change.touch = Unit {0}

-- a call whose numbers are in range, with values of depth at most k; in a shape each name has the
-- form of a name
abbrev pub CallWithin : ℕ → PlainCall → Type 0
CallWithin k (call.declare s) = HasNames s
CallWithin k call.begin_top = Unit {0}
CallWithin k (call.begin_sub a) = a < 2 ^ 32
CallWithin k (call.begin_nested a) = a < 2 ^ 32
CallWithin k (call.commit a) = a < 2 ^ 32
CallWithin k (call.abort a) = a < 2 ^ 32
CallWithin k (call.abort_others a) = a < 2 ^ 32
CallWithin k (call.ask a o q) = (a < 2 ^ 32) × (o < 2 ^ 32) × QueryWithin q
CallWithin k (call.alter a o c) = (a < 2 ^ 32) × (o < 2 ^ 32) × ChangeWithin k c
CallWithin k (call.test_read a o) = (a < 2 ^ 32) × (o < 2 ^ 32)
CallWithin k (call.test_write a o) = (a < 2 ^ 32) × (o < 2 ^ 32)

-- an answer whose number is in range, with values of depth at most k
abbrev pub AnswerWithin : ℕ → PlainAnswer → Type 0
AnswerWithin k (answer.val v) = Within k v
AnswerWithin k (answer.num n) = IsI64 n
AnswerWithin k (answer.body c) = PartsWithin k c
AnswerWithin k answer.done = Unit {0}
AnswerWithin k (answer.flag b) = Unit {0}
AnswerWithin k (answer.signal s) = Unit {0}

-- a reply whose number is in range, with values of depth at most k
abbrev pub ReplyWithin : ℕ → PlainReply → Type 0
ReplyWithin k (reply.object o) = o < 2 ^ 32
ReplyWithin k (reply.begun a) = a < 2 ^ 32
ReplyWithin k (reply.answered a) = AnswerWithin k a
ReplyWithin k (reply.refused r) = Unit {0}

-- an entry whose numbers are in range, with values of depth at most k
abbrev pub EntryWithin : ℕ → PlainEntry → Type 0
EntryWithin k e = CallWithin k e.call × ReplyWithin k e.reply

-- numbered entries with the same line are the same and have the same number, whatever the depth of
-- their values
abbrev pub EntryLinesAreUnambiguous : Type 0
EntryLinesAreUnambiguous =
    (k m n : ℕ) (d e : PlainEntry) → m < 2 ^ 64 → n < 2 ^ 64 → EntryWithin k d → EntryWithin k e
    → entry_spelling m d ≡ entry_spelling n e → (m ≡ n) × (d ≡ e)

-- a change that a program can hold that suits a shape that can be made has values of depth at most
-- 16, whatever depth was known of them
abbrev pub SuitingChangesKeepTheDepth : Type 0
SuitingChangesKeepTheDepth =
    (s : PlainShape) (declared k : ℕ) (c : PlainChange) → IsMakeable s
    → change_suits s declared c ≡ true → ChangeWithin k c
    → ChangeWithin MAX_VALUE_DEPTH c
