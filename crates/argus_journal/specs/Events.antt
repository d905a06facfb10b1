-- What the entries of a journal say happened, the newest entry first.
use Rattle.std.specs.Prelude.{Bool, List, None, Option, Some, [], false, if◌then◌else◌, true, ◌∷◌}
use Rattle.argus_contents.specs.Answer.{PlainAnswer, body, done, flag, num, signal, val}
use Rattle.argus_entries.specs.Call.{PlainCall, abort, abort_others, alter, ask, begin_nested, begin_sub, begin_top}
use Rattle.argus_entries.specs.{Call.{commit, declare, test_read, test_write}, Entry.PlainEntry}
use Rattle.argus_entries.specs.Reply.{PlainReply, answered, begun, object, refused}
use Rattle.argus_model.specs.Event.{Aborted, Accessed, Began, Committed, Event, Nested, Sub, Top}
use Rattle.argus_model.specs.{History.{History, Opened, ◌▹◌}, Status.live_siblings}
use Rattle.argus_journal.specs.{Numbering.in_history, Opening.Opening}

-- the reply is the number of an action
abbrev pub is_begun_reply : PlainReply → Bool
is_begun_reply (begun n) = true
is_begun_reply (object o) = false
is_begun_reply (answered x) = false
is_begun_reply (refused why) = false

-- the reply is an answer; a signal is one
abbrev pub is_answered : PlainReply → Bool
is_answered (answered x) = true
is_answered (object o) = false
is_answered (begun n) = false
is_answered (refused why) = false

-- the truth value that a test returned
abbrev pub truth_of : PlainAnswer → Bool
truth_of (flag truth) = truth
truth_of done = false
truth_of (val v) = false
truth_of (num n) = false
truth_of (body c) = false
truth_of (signal s) = false

-- a test returned yes
abbrev pub says_yes : PlainReply → Bool
says_yes (answered x) = truth_of x
says_yes (object o) = false
says_yes (begun n) = false
says_yes (refused why) = false

-- the event, if the reply says so
abbrev pub event_if : Bool → Event PlainEntry → Option (Event PlainEntry)
event_if said event = if said then Some event else None

-- what a call with this reply says happened: nothing if it was refused, is a declaration, or is a
-- test that says no
abbrev pub event_of : History PlainEntry → PlainCall → PlainReply → PlainEntry
    → Option (Event PlainEntry)
event_of h (declare shape) r e = None
event_of h begin_top r e = event_if (is_begun_reply r) (Began Top)
event_of h (begin_sub parent) r e = event_if (is_begun_reply r) (Began (Sub (in_history parent)))
event_of h (begin_nested creator) r e =
    event_if (is_begun_reply r) (Began (Nested (in_history creator)))
event_of h (commit a) r e = event_if (is_answered r) (Committed (in_history a))
event_of h (abort a) r e = event_if (is_answered r) (Aborted (in_history a ∷ []))
event_of h (abort_others a) r e =
    event_if (is_answered r) (Aborted (live_siblings h (in_history a)))
event_of h (ask a o query) r e = event_if (is_answered r) (Accessed (in_history a) o e)
event_of h (alter a o change) r e = event_if (is_answered r) (Accessed (in_history a) o e)
event_of h (test_read a o) r e = event_if (says_yes r) (Accessed (in_history a) o e)
event_of h (test_write a o) r e = event_if (says_yes r) (Accessed (in_history a) o e)

-- the history with the event, if something happened
abbrev pub with_event : Option (Event PlainEntry) → History PlainEntry → History PlainEntry
with_event None h = h
with_event (Some event) h = event ▹ h

-- the history of a journal, from its opening on
abbrev pub history : Opening → List PlainEntry → History PlainEntry
history s [] = Opened s.first_action
history s (e ∷ older) = with_event (event_of (history s older) e.call e.reply e) (history s older)

-- what an entry says happened after these
abbrev pub happens : Opening → PlainEntry → List PlainEntry → Option (Event PlainEntry)
happens s e older = event_of (history s older) e.call e.reply e
