-- How the arms of outermost coenters ended, by their last calls.
use Rattle.std.specs.Prelude.{All, Bool, List, None, Option, Some, false, if◌then◌else◌, ◌&&◌, ◌==◌, ◌∷◌, ◌≡◌, []}
use Rattle.argus_actions.specs.declared.action_id.ActionId.{ActionId}
use Rattle.argus_entries.specs.Call.{PlainCall, abort, abort_others, alter, ask, begin_nested, begin_sub, begin_top}
use Rattle.argus_entries.specs.{Call.{commit, declare, test_read, test_write}, Entry.PlainEntry}
use Rattle.argus_entries.specs.Reply.{PlainReply, answered, begun, object, refused}
use Rattle.argus_runs.specs.Replies.{is_over}
use Rattle.argus_workers.specs.{declared.arm_number.ArmNumber.ArmNumber, declared.arm_outcome.ArmOutcome.ArmOutcome}
use Rattle.argus_workers.specs.{declared.ended.Ended.Ended, declared.made_call.MadeCall.MadeCall}
use Rattle.argus_workers.specs.declared.ended.Ended.TheVariants as ended

-- how an arm with this action ended, if its last call was this one and was accepted: by a commit or
-- an abort of its own action, and by no other call
abbrev pub ended_by_call : ActionId → PlainCall → Option Ended
ended_by_call a (commit b) = if a.0 == b then Some ended.Committed else None
ended_by_call a (abort b) = if a.0 == b then Some ended.Aborted else None
ended_by_call a (declare shape) = None
ended_by_call a begin_top = None
ended_by_call a (begin_sub b) = None
ended_by_call a (begin_nested b) = None
ended_by_call a (abort_others b) = None
ended_by_call a (ask b o q) = None
ended_by_call a (alter b o c) = None
ended_by_call a (test_read b o) = None
ended_by_call a (test_write b o) = None

-- how it ended, if this was the reply to its last call: a refused call ends it only if its action
-- is over, or was never begun
abbrev pub ended_by_reply : ActionId → PlainCall → PlainReply → Option Ended
ended_by_reply a call (refused r) = if is_over r then Some ended.Over else None
ended_by_reply a call (object o) = ended_by_call a call
ended_by_reply a call (begun b) = ended_by_call a call
ended_by_reply a call (answered x) = ended_by_call a call

-- how an arm ended, by its action, which it has if its begin was accepted, and by its last call;
-- `None` if nothing has ended it
abbrev pub ended_as : Option ActionId → Option PlainEntry → Option Ended
ended_as None last = Some ended.Refused
ended_as (Some a) None = None
ended_as (Some a) (Some e) = ended_by_reply a e.call e.reply

-- the two are one arm
abbrev pub is_arm : ArmNumber → Option ArmNumber → Bool
is_arm n None = false
is_arm n (Some m) = n.coenter == m.coenter && n.arm == m.arm

-- the later of two entries, if there is one
abbrev pub later_of : Option PlainEntry → Option PlainEntry → Option PlainEntry
later_of x None = x
later_of x (Some y) = Some y

-- the last of these calls that this arm made, with its reply: entries, and who made their calls
abbrev pub last_of_arm : ArmNumber → List MadeCall → List PlainEntry → Option PlainEntry
last_of_arm n [] es = None
last_of_arm n (c ∷ cs) [] = None
last_of_arm n (c ∷ cs) (e ∷ es) =
    later_of (if is_arm n c.arm then Some e else None) (last_of_arm n cs es)

-- the arm of an outcome
abbrev pub arm_of : ArmOutcome → ArmNumber
arm_of x = record { coenter = x.coenter; arm = x.arm }

-- the arm ended as its action and its last call show
abbrev pub IsShown : List MadeCall → List PlainEntry → ArmOutcome → Type 0
IsShown calls entries x = ended_as x.action (last_of_arm (arm_of x) calls entries) ≡ Some x.ended

-- Each arm ended as its action and its last call show: Refused exactly if it has no action;
-- Committed exactly if its last call is an accepted commit of its action; Aborted exactly if it is
-- an accepted abort of its action; Over exactly if it was refused since its action was over, or was
-- never begun.
abbrev pub AreShown : List MadeCall → List PlainEntry → List ArmOutcome → Type 0
AreShown calls entries outcomes = All (IsShown calls entries) outcomes
