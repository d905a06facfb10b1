-- The answers of a serial run.
use Rattle.std.specs.Prelude.{List, Option, true, ℕ, ◌≡◌}
use Rattle.argus_contents.specs.{Answer.flag, Change.outcome, Content.PlainContent, Query.reply}
use Rattle.argus_entries.specs.Call.{PlainCall, abort, abort_others, alter, ask, begin_nested, begin_sub, begin_top}
use Rattle.argus_entries.specs.{Call.{commit, declare, test_read, test_write}, Entry.PlainEntry}
use Rattle.argus_entries.specs.Reply.{PlainReply, answered}
use Rattle.argus_model.specs.Work.{Access, content_before}
use Rattle.argus_journal.specs.Entries.{entries}

-- the call is an access to this object, and this is its answer at this content of it
abbrev pub IsAnsweredAt : PlainCall → PlainReply → ℕ → Option PlainContent → Type 0
IsAnsweredAt (ask a o query) r i c = (i ≡ o) × (r ≡ answered (reply query c))
IsAnsweredAt (alter a o change) r i c = (i ≡ o) × (r ≡ answered (outcome change c).1)
IsAnsweredAt (test_read a o) r i c = (i ≡ o) × (r ≡ answered (flag true))
IsAnsweredAt (test_write a o) r i c = (i ≡ o) × (r ≡ answered (flag true))
IsAnsweredAt (declare shape) r i c = ⊥
IsAnsweredAt begin_top r i c = ⊥
IsAnsweredAt (begin_sub parent) r i c = ⊥
IsAnsweredAt (begin_nested creator) r i c = ⊥
IsAnsweredAt (commit a) r i c = ⊥
IsAnsweredAt (abort a) r i c = ⊥
IsAnsweredAt (abort_others a) r i c = ⊥

-- an access, run after these (the newest first), gives its reply again
abbrev pub AnswersAt : (ℕ → Option PlainContent) → Access PlainEntry → List (Access PlainEntry)
    → Type 0
AnswersAt contents e earlier =
    IsAnsweredAt e.what.call e.what.reply e.object (content_before entries contents e earlier)
