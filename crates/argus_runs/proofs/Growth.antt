-- If each call adds to the state, the run does.
use Rattle.std.proofs.Common.{arith, ◌≡◌, Bool, true, false, List, ◌∷◌, Option, Some, None}
use Rattle.std.proofs.lemmas.Bool.Decides.{nat_tests}
use Rattle.argus_actions.specs.declared.action_id.ActionId.{ActionId}
use Rattle.argus_language.specs.PlainStep.{PlainSteps}
use Rattle.argus_contents.specs.{Shape.PlainShape, declared.obj_id.ObjId.ObjId}
use Rattle.argus_entries.specs.{Call.PlainCall, Reply.PlainReply}
use Rattle.argus_journal.specs.Events.{says_yes}
use Rattle.argus_runs.specs.{RunOutcome.{RunOutcome, finished, mismatched, ◌>>=◌}, Replies.{flow_after, goes_on}}
use Rattle.argus_runs.specs.Running.{begin_all, finish, run_arms, run_arms_by_runner, run_steps, run_tops}
use Rattle.argus_runs.specs.{RunPrefix.IsRunPrefix, declared.flow.Flow.Flow}
use Rattle.argus_runs.specs.declared.flow.Flow.TheVariants as flow
use Rattle.argus_runs.proofs.Simulation.{ArmRunner, Handed, Simulates, arms_related, begin_all_related, finish_related}
use Rattle.argus_runs.proofs.Simulation.{handed_related, parts_related, tops_related}

-- Each call adds to the state, and arms run one after another.
pub record ExtendingCalls (S : Type 0) (is_prefix : S → S → Type 0) (reply : PlainCall → S → RunOutcome S PlainReply)
    (arm_runner : ArmRunner S) : Type 0 where
  pub no_arm_runner : arm_runner ≡ None
  pub same : (s : S) → is_prefix s s
  pub on : (s t u : S) → is_prefix s t → is_prefix t u → is_prefix s u
  pub call_extends : (call : PlainCall) (s : S) → IsRunPrefix is_prefix s (reply call s)

module _ {S : Type 0} {is_prefix : S → S → Type 0} {reply : PlainCall → S → RunOutcome S PlainReply}
    {arm_runner : ArmRunner S} (l : ExtendingCalls S is_prefix reply arm_runner) where
  within_on : {X : Type 0} (s t : S) (m : RunOutcome S X) → is_prefix s t → IsRunPrefix is_prefix t m
      → IsRunPrefix is_prefix s m
  within_on s t (finished x u) p q = l.on s t u p q
  within_on s t mismatched p q = absurd q

  pub within_then : {X Y : Type 0} (s : S) (m : RunOutcome S X) (f : X → S → RunOutcome S Y)
      → IsRunPrefix is_prefix s m → ((x : X) (t : S) → IsRunPrefix is_prefix t (f x t))
      → IsRunPrefix is_prefix s (m >>= f)
  within_then s (finished x t) f p g = within_on s t (f x t) p (g x t)
  within_then s mismatched f p g = absurd p

  -- what each call and all that is made of calls have in common
  abbrev Grows : (X : Type 0) → S → RunOutcome S X → (S → RunOutcome S X) → Type 0
  Grows X s m n = IsRunPrefix is_prefix s m

  grows : Simulates S S reply reply Grows
  grows = grind (arith, nat_tests, within_then)

  none_handed : (h : ArmRunner S) → h ≡ None → Handed S S reply reply Grows h
  none_handed h e = grind (arith, nat_tests)

  alone : Handed S S reply reply Grows arm_runner
  alone = none_handed arm_runner l.no_arm_runner

  -- the arms that follow one that was begun
  abbrev pub begin_on : PlainSteps → Option ActionId → Option ActionId → S → RunOutcome S (List (Option ActionId))
  begin_on ps w b t = begin_all S reply arm_runner ps w t >>= λ bs u. finished (b ∷ bs) u

  pub begin_on_grows : (ps : PlainSteps) (w : Option ActionId) (b : Option ActionId) (t : S)
      → IsRunPrefix is_prefix t (begin_on ps w b t)
  begin_on_grows ps w b t = grind (arith, nat_tests, begin_all_related, within_then, grows, alone)

  -- what follows a step, a beginning, a test
  abbrev pub go_on : List ObjId → PlainSteps → Option ActionId → Flow → S → RunOutcome S Flow
  go_on ns ps w x t = elim (goes_on x) [ true ↦ run_steps S reply arm_runner ns ps w t | false ↦ finished x t ]

  abbrev pub enter_on : List ObjId → PlainSteps → Option ActionId → S → RunOutcome S Flow
  enter_on ns ps b t = elim b [
    | None ↦ finished flow.On t
    | Some a ↦ run_steps S reply arm_runner ns ps (Some a) t >>= finish S reply arm_runner a
  ]

  abbrev pub test_on : List ObjId → PlainSteps → ActionId → PlainReply → S → RunOutcome S Flow
  test_on ns ps a r t = elim (says_yes r) [
    | true ↦ run_steps S reply arm_runner ns ps (Some a) t
    | false ↦ finished (flow_after r) t
  ]

  abbrev Whole : List ObjId → PlainSteps → Type 0
  Whole ns ps = (w : Option ActionId) (t : S) → IsRunPrefix is_prefix t (run_steps S reply arm_runner ns ps w t)

  go_on_by : (b : Bool) (ns : List ObjId) (ps : PlainSteps) (w : Option ActionId) (x : Flow) (t : S) → Whole ns ps
      → IsRunPrefix is_prefix t (elim b [ true ↦ run_steps S reply arm_runner ns ps w t | false ↦ finished x t ])
  go_on_by b ns ps w x t h = grind (arith, nat_tests)

  pub go_on_grows : (ns : List ObjId) (ps : PlainSteps) (w : Option ActionId) → Whole ns ps → (x : Flow) (t : S)
      → IsRunPrefix is_prefix t (go_on ns ps w x t)
  go_on_grows ns ps w h x t = go_on_by (goes_on x) ns ps w x t h

  pub finish_grows : (a : ActionId) (x : Flow) (s : S) → IsRunPrefix is_prefix s (finish S reply arm_runner a x s)
  finish_grows = finish_related S S reply reply Grows grows arm_runner alone

  pub enter_on_grows : (ns : List ObjId) (ps : PlainSteps) → Whole ns ps → (b : Option ActionId) (t : S)
      → IsRunPrefix is_prefix t (enter_on ns ps b t)
  enter_on_grows ns ps h b t = grind (arith, nat_tests, finish_grows, within_then)

  pub test_on_grows : (ns : List ObjId) (ps : PlainSteps) (a : ActionId) → Whole ns ps → (r : PlainReply) (t : S)
      → IsRunPrefix is_prefix t (test_on ns ps a r t)
  test_on_grows ns ps a h r t = go_on_by (says_yes r) ns ps (Some a) (flow_after r) t h

  pub parts_grow : (ns : List ObjId) (ps : PlainSteps) (w : Option ActionId) (s : S)
      → IsRunPrefix is_prefix s (run_steps S reply arm_runner ns ps w s)
  parts_grow = parts_related S S reply reply Grows grows arm_runner alone

  pub arms_grow : (ns : List ObjId) (ps : PlainSteps) (bs : List (Option ActionId)) (s : S)
      → IsRunPrefix is_prefix s (run_arms S reply arm_runner ns ps bs s)
  arms_grow = arms_related S S reply reply Grows grows arm_runner alone

  pub handed_grows : (ns : List ObjId) (ps : PlainSteps) (bs : List (Option ActionId)) (s : S)
      → IsRunPrefix is_prefix s (run_arms_by_runner S reply arm_runner ns ps bs s)
  handed_grows = handed_related S S reply reply Grows grows arm_runner alone

  pub tops_grow : (shapes : List PlainShape) (ns : List ObjId) (ps : PlainSteps) (s : S)
      → IsRunPrefix is_prefix s (run_tops S reply arm_runner shapes ns ps s)
  tops_grow = tops_related S S reply reply Grows grows arm_runner alone
