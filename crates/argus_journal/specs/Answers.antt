-- The answer to a call after a journal: the first refusal that applies, or otherwise what it asked
-- for.
use Rattle.std.specs.Prelude.{Bool, List, None, Option, Some, false, length, nat_lt, not, slice_get, true, ℕ, ◌-◌, ◌==◌}
use Rattle.argus_contents.specs.{Answer.{done, flag}, Change.{PlainChange, outcome}, Content.PlainContent, Query.reply}
use Rattle.argus_contents.specs.{Fitting.{change_suits, query_suits}, Shape.PlainShape, declared.query.Query.Query}
use Rattle.argus_contents.specs.declared.limits.TheConstants.{MAX_ACTIONS, MAX_ACTION_DEPTH, MAX_OBJECTS}
use Rattle.argus_entries.specs.Call.{PlainCall, abort, abort_others, alter, ask, begin_nested, begin_sub, begin_top}
use Rattle.argus_entries.specs.{Call.{commit, declare, test_read, test_write}, Entry.PlainEntry}
use Rattle.argus_entries.specs.{Reply.{PlainReply, answered, begun, object, refused}, declared.refusal.Refusal.Refusal}
use Rattle.argus_entries.specs.declared.refusal.Refusal.TheVariants.{Conflict, IllTyped, NoAction, NoObject, NoSiblings}
use Rattle.argus_entries.specs.declared.refusal.Refusal.TheVariants.{Over, Suspended, TooDeep, TooMany}
use Rattle.argus_model.specs.{Ancestors.{begun_by, lineage}, Contents.sees, History.{History, next_action}}
use Rattle.argus_model.specs.{Holders.{may_read, may_write}, Status.{has_live_child, is_live}}
use Rattle.argus_journal.specs.{Entries.entries, Events.history, Numbering.{in_history, in_program}, Objects.shapes}
use Rattle.argus_journal.specs.Opening.{Opening, model_opening}

-- this refusal unless the test holds, and then the rest
abbrev pub unless : Bool → Refusal → Option Refusal → Option Refusal
unless true why rest = rest
unless false why rest = Some why

-- the action has begun, and is live
abbrev pub if_live : History PlainEntry → ℕ → Option Refusal → Option Refusal
if_live h a rest = unless (nat_lt (in_history a) (next_action h)) NoAction
    (unless (is_live h (in_history a)) Over rest)

-- and it has no live child
abbrev pub if_free : History PlainEntry → ℕ → Option Refusal → Option Refusal
if_free h a rest = if_live h a (unless (not (has_live_child h (in_history a))) Suspended rest)

-- there is such an object
abbrev pub if_declared : List PlainShape → ℕ → Option Refusal → Option Refusal
if_declared shapes o rest = unless (nat_lt o (length shapes)) NoObject rest

-- the shape is there, and passes the test
abbrev pub suits : (PlainShape → Bool) → Option PlainShape → Bool
suits test None = false
suits test (Some shape) = test shape

-- the query suits the shape of the object
abbrev pub suits_query : List PlainShape → ℕ → Query → Bool
suits_query shapes o query = suits (λ shape. query_suits shape query) (slice_get shapes o)

-- the change suits the shape of the object, and the references in it name declared objects
abbrev pub suits_change : List PlainShape → ℕ → PlainChange → Bool
suits_change shapes o change =
    suits (λ shape. change_suits shape (length shapes) change) (slice_get shapes o)

-- an action began it: its parent or its creator
abbrev pub if_created : History PlainEntry → ℕ → Option Refusal
if_created h a = unless (not (begun_by h (in_history a) == 0)) NoSiblings None

-- how many ancestors an action has, itself included
abbrev pub depth : History PlainEntry → ℕ → ℕ
depth h a = length (lineage h (in_history a)) - 1

-- one more action may begin
abbrev pub if_room : History PlainEntry → Option Refusal
if_room h = unless (nat_lt (in_program (next_action h)) MAX_ACTIONS) TooMany None

-- the parent may have subactions, and one more action may begin
abbrev pub if_shallow : History PlainEntry → ℕ → Option Refusal
if_shallow h parent = unless (nat_lt (depth h parent) MAX_ACTION_DEPTH) TooDeep (if_room h)

-- the first refusal that applies, with these objects declared (Argus Reference Manual 1987, locking
-- rules)
abbrev pub refusal : History PlainEntry → List PlainShape → PlainCall → Option Refusal
refusal h shapes (declare shape) = unless (nat_lt (length shapes) MAX_OBJECTS) TooMany None
refusal h shapes begin_top = if_room h
refusal h shapes (begin_sub parent) = if_live h parent (if_shallow h parent)
refusal h shapes (begin_nested creator) = if_live h creator (if_room h)
refusal h shapes (commit a) = if_free h a None
refusal h shapes (abort a) = if_live h a None
refusal h shapes (abort_others a) = if_free h a (if_created h a)
refusal h shapes (ask a o query) =
    if_free h a (if_declared shapes o
    (unless (suits_query shapes o query) IllTyped
    (unless (may_read entries h (in_history a) o) Conflict None)))
refusal h shapes (alter a o change) =
    if_free h a (if_declared shapes o
    (unless (suits_change shapes o change) IllTyped
    (unless (may_write entries h (in_history a) o) Conflict None)))
refusal h shapes (test_read a o) = if_free h a (if_declared shapes o None)
refusal h shapes (test_write a o) = if_free h a (if_declared shapes o None)

-- what the action sees in the object
abbrev pub visible_in_history : Opening → History PlainEntry → ℕ → ℕ → Option PlainContent
visible_in_history s h a o = sees entries (model_opening s) h (in_history a) o

-- the reply if no refusal applies: the next number, an answer, or whether the lock is granted
abbrev pub granted : Opening → History PlainEntry → List PlainShape → PlainCall → PlainReply
granted s h shapes (declare shape) = object (length shapes)
granted s h shapes begin_top = begun (in_program (next_action h))
granted s h shapes (begin_sub parent) = begun (in_program (next_action h))
granted s h shapes (begin_nested creator) = begun (in_program (next_action h))
granted s h shapes (commit a) = answered done
granted s h shapes (abort a) = answered done
granted s h shapes (abort_others a) = answered done
granted s h shapes (ask a o query) = answered (reply query (visible_in_history s h a o))
granted s h shapes (alter a o change) = answered (outcome change (visible_in_history s h a o)).1
granted s h shapes (test_read a o) = answered (flag (may_read entries h (in_history a) o))
granted s h shapes (test_write a o) = answered (flag (may_write entries h (in_history a) o))

-- the refusal, if there is one, otherwise the reply
abbrev pub or_refused : Option Refusal → PlainReply → PlainReply
or_refused None reply = reply
or_refused (Some why) reply = refused why

-- the reply after these entries
abbrev pub answer : Opening → List PlainEntry → PlainCall → PlainReply
answer s older call =
    or_refused (refusal (history s older) (shapes s older) call)
    (granted s (history s older) (shapes s older) call)
