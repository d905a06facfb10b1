-- What receipts in script order show: that they are those of a run, who made each call, and what
-- became of the arms of outermost coenters.
use Rattle.std.specs.Prelude.{List, None, Option, Some, cond, map, ℕ, ◌+◌, ◌++◌, ◌∷◌, ◌≡◌, []}
use Rattle.argus_actions.specs.declared.action_id.ActionId.{ActionId}
use Rattle.argus_language.specs.{PlainStep.{PlainStep, PlainSteps, more, none}, Script.PlainScript}
use Rattle.argus_contents.specs.declared.obj_id.ObjId.{ObjId}
use Rattle.argus_entries.specs.{Call.PlainCall, Entry.PlainEntry, Reply.PlainReply, Same.same_call}
use Rattle.argus_sharing.specs.Receipt.{PlainReceipt}
use Rattle.argus_runs.specs.{RunOutcome.{RunOutcome, finished, mismatched, ◌>>=◌}, Running.{run_arm, run_script}}
use Rattle.argus_runs.specs.declared.flow.Flow.{Flow}
use Rattle.argus_runs.specs.declared.flow.Flow.TheVariants as flow
use Rattle.argus_workers.specs.{Order.InOrder, Outcomes.{AreShown, ended_as}, declared.arm_number.ArmNumber.ArmNumber}
use Rattle.argus_workers.specs.{declared.arm_outcome.ArmOutcome.ArmOutcome, declared.ended.Ended.Ended}
use Rattle.argus_workers.specs.declared.made_call.MadeCall.{MadeCall}

-- What was seen of a run so far: the receipts still to come; who made each call so far; the arm of
-- an outermost coenter that runs, and its last call; how many outermost coenters ran before, and
-- what became of the arms so far.
pub record CheckState : Type 0 where
  pub left : List PlainReceipt
  pub calls : List MadeCall
  pub arm : Option ArmNumber
  pub last : Option PlainEntry
  pub coenters : ℕ
  pub outcomes : List ArmOutcome

-- the next receipt is used up: the arm that runs, if any, made its call
abbrev pub with_call : PlainReceipt → List PlainReceipt → CheckState → CheckState
with_call r rest s = record s {
  left = rest;
  calls = s.calls ++ record { arm = s.arm; at = r.at } ∷ [];
  last = Some r.entry;
}

-- the next of these receipts has to be the call's, and has its reply
abbrev pub reply_from_receipt : List PlainReceipt → PlainCall → CheckState
    → RunOutcome CheckState PlainReply
reply_from_receipt [] call s = mismatched
reply_from_receipt (r ∷ rest) call s =
    cond (same_call r.entry.call call) (finished r.entry.reply (with_call r rest s)) mismatched

-- what a call comes to
abbrev pub reply_from_receipts : PlainCall → CheckState → RunOutcome CheckState PlainReply
reply_from_receipts call s = reply_from_receipt s.left call s

-- an arm of the outermost coenter begins to run
abbrev pub enter_arm : ℕ → CheckState → CheckState
enter_arm k s = record s { arm = Some (record { coenter = s.coenters; arm = k }); last = None }

-- it ran, and ended like this
abbrev pub leave_arm : ℕ → Option ActionId → Ended → CheckState → CheckState
leave_arm k action ended s = record s {
  arm = None;
  outcomes = s.outcomes
      ++ record { coenter = s.coenters; arm = k; action = action; ended = ended } ∷ [];
}

-- it ran, and has to have ended by its last call
abbrev pub end_arm : ℕ → Option ActionId → CheckState → RunOutcome CheckState Flow
end_arm k action s = elim (ended_as action s.last) [
  | None ↦ mismatched
  | Some ended ↦ finished flow.On (leave_arm k action ended s)
]

-- arm number k of an outermost coenter, if it was begun
abbrev pub check_arm : ℕ → List ObjId → PlainStep → Option ActionId → CheckState
    → RunOutcome CheckState Flow
check_arm k numbers p b s = run_arm CheckState reply_from_receipts None numbers p b (enter_arm k s)
    >>= λ x t. end_arm k b t

-- the arms of an outermost coenter from number k on, one after another
abbrev pub check_arms : ℕ → List ObjId → PlainSteps → List (Option ActionId) → CheckState
    → RunOutcome CheckState Flow
check_arms k numbers none bs s = finished flow.On (record s { coenters = s.coenters + 1 })
check_arms k numbers (more p ps) [] s = finished flow.On (record s { coenters = s.coenters + 1 })
check_arms k numbers (more p ps) (b ∷ bs) s =
    check_arm k numbers p b s >>= λ x t. check_arms (k + 1) numbers ps bs t

-- nothing was seen yet
abbrev pub start : List PlainReceipt → CheckState
start receipts = record {
  left = receipts;
  calls = [];
  arm = None;
  last = None;
  coenters = 0;
  outcomes = [];
}

-- nothing is left over, and of two calls that aren't parallel the earlier has the lower number
abbrev pub IsWhole : CheckState → Type 0
IsWhole s = (s.left ≡ []) × InOrder s.calls

-- the entries of receipts
abbrev pub entries_of_receipts : List PlainReceipt → List PlainEntry
entries_of_receipts receipts = map (λ r. r.entry) receipts

-- The receipts are those of the calls of a run of the script, each the one that comes next after
-- the replies before it, and no more; of two calls that aren't parallel the earlier has the lower
-- number; and this became of the arms, each of which ended as its last call shows.
abbrev pub IsCheckedRun : PlainScript → List PlainReceipt → List ArmOutcome → Type 0
IsCheckedRun script receipts outcomes = (numbers : List ObjId) × (end : CheckState)
    × (run_script CheckState reply_from_receipts (Some (check_arms 0)) script (start receipts)
    ≡ finished numbers end)
    × IsWhole end × AreShown end.calls (entries_of_receipts receipts) outcomes
    × (end.outcomes ≡ outcomes)
