-- Where the entries of a journal write its objects. The entries come the oldest first.
use Rattle.std.specs.Prelude.{List, None, Option, Some, if◌then◌else◌, is_some, slice_get, true, ℕ, ◌+◌, ◌<◌, ◌≡◌, ◌≤◌}
use Rattle.argus_actions.specs.declared.action_id.ActionId.{ActionId}
use Rattle.argus_audit.specs.declared.writes.Writes.{Writes}
use Rattle.argus_contents.specs.declared.obj_id.ObjId.{ObjId}
use Rattle.argus_entries.specs.Call.{PlainCall, abort, abort_others, alter, ask, begin_nested, begin_sub, begin_top}
use Rattle.argus_entries.specs.{Call.{commit, declare, test_read, test_write}, Entry.PlainEntry, Reply.PlainReply}
use Rattle.argus_journal.specs.{Events.{is_answered, says_yes}, Replaying.writer_by}

-- the action that writes by a call of this reply, and the object that it writes
abbrev pub written_by : PlainCall → PlainReply → Option (ActionId × ObjId)
written_by (alter a o change) reply =
    if is_answered reply then Some (record { 0 = a }, record { 0 = o }) else None
written_by (test_write a o) reply =
    if says_yes reply then Some (record { 0 = a }, record { 0 = o }) else None
written_by (declare shape) reply = None
written_by begin_top reply = None
written_by (begin_sub parent) reply = None
written_by (begin_nested creator) reply = None
written_by (commit a) reply = None
written_by (abort a) reply = None
written_by (abort_others a) reply = None
written_by (ask a o query) reply = None
written_by (test_read a o) reply = None

-- no entry from this place on and before that one writes the object
abbrev pub Skips : List PlainEntry → ℕ → ℕ → ℕ → Type 0
Skips xs o from to = (i : ℕ) (e : PlainEntry) → from ≤ i → i < to → slice_get xs i ≡ Some e
    → writer_by e.call e.reply o ≡ None

-- the entry at this place, if there is one, writes the object
abbrev pub IsWrite : List PlainEntry → ℕ → ℕ → Type 0
IsWrite xs o i = (e : PlainEntry) → slice_get xs i ≡ Some e
    → is_some (writer_by e.call e.reply o) ≡ true

-- from this place on no entry before an object's head writes the object
abbrev pub AreHeads : List PlainEntry → ℕ → List ℕ → Type 0
AreHeads xs from heads = (o to : ℕ) → slice_get heads o ≡ Some to → Skips xs o from to

-- between a write and the place to which its link leads no entry writes its object
abbrev pub AreLinks : List PlainEntry → List ℕ → Type 0
AreLinks xs links = (i o to : ℕ) → slice_get links i ≡ Some to → IsWrite xs o i
    → Skips xs o (i + 1) to

-- these are the writes of these entries
abbrev pub AreWrites : Writes → List PlainEntry → Type 0
AreWrites writes xs = AreHeads xs 0 writes.first.items × AreLinks xs writes.next.items
