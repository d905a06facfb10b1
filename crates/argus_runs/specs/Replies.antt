-- What follows from a reply.
use Rattle.std.specs.Prelude.{Bool, List, None, Option, Some, false, get_or, true, ℕ}
use Rattle.argus_actions.specs.declared.action_id.ActionId.{ActionId}
use Rattle.argus_language.specs.{declared.action_kind.ActionKind.ActionKind, declared.lock.Lock.Lock}
use Rattle.argus_language.specs.declared.action_kind.ActionKind.TheVariants as kind
use Rattle.argus_language.specs.declared.lock.Lock.TheVariants as lock
use Rattle.argus_contents.specs.{declared.limits.TheConstants.MAX_OBJECTS, declared.obj_id.ObjId.ObjId}
use Rattle.argus_entries.specs.Call.{PlainCall, begin_nested, begin_sub, begin_top, test_read, test_write}
use Rattle.argus_entries.specs.{Reply.{PlainReply, answered, begun, object, refused}, declared.refusal.Refusal.Refusal}
use Rattle.argus_entries.specs.declared.refusal.Refusal.TheVariants as why
use Rattle.argus_runs.specs.declared.flow.Flow.{Flow}
use Rattle.argus_runs.specs.declared.flow.Flow.TheVariants as flow

-- the number that no object has: a name stands for it if its declaration was refused
abbrev pub undeclared : ObjId
undeclared = record { 0 = MAX_OBJECTS }

-- the number that a declared name stands for
abbrev pub object_of : PlainReply → ObjId
object_of (object o) = record { 0 = o }
object_of (begun a) = undeclared
object_of (answered x) = undeclared
object_of (refused r) = undeclared

-- the number of the object that is number x in the script, given the numbers of its names
abbrev pub object_number_at : List ObjId → ℕ → ℕ
object_number_at numbers x = (get_or numbers x undeclared).0

-- the action that was begun, if it was
abbrev pub begun_by : PlainReply → Option ActionId
begun_by (begun a) = Some (record { 0 = a })
begun_by (object o) = None
begun_by (answered x) = None
begun_by (refused r) = None

-- how a block goes on after an access or a test: one that is refused ends it
abbrev pub flow_after : PlainReply → Flow
flow_after (refused r) = flow.Refused r
flow_after (object o) = flow.On
flow_after (begun a) = flow.On
flow_after (answered x) = flow.On

-- the next step comes
abbrev pub goes_on : Flow → Bool
goes_on flow.On = true
goes_on flow.Leave = false
goes_on flow.AbortLeave = false
goes_on flow.LeaveAll = false
goes_on (flow.Refused r) = false

-- the action is over, or was never begun
abbrev pub is_over : Refusal → Bool
is_over why.NoAction = true
is_over why.Over = true
is_over why.Suspended = false
is_over why.NoObject = false
is_over why.IllTyped = false
is_over why.Conflict = false
is_over why.TooDeep = false
is_over why.TooMany = false
is_over why.NoSiblings = false

-- the call that begins a block or an arm: at top level it is a topaction
abbrev pub begin_call : ActionKind → Option ActionId → PlainCall
begin_call kind.Topaction None = begin_top
begin_call kind.Topaction (Some a) = begin_nested a.0
begin_call kind.Subaction None = begin_top
begin_call kind.Subaction (Some a) = begin_sub a.0

-- the call of an `if`
abbrev pub test_call : Lock → ActionId → ℕ → PlainCall
test_call lock.Read a o = test_read a.0 o
test_call lock.Write a o = test_write a.0 o
