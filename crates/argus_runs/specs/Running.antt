-- The run of a script: which call comes next, after the replies so far.
use Rattle.std.specs.Prelude.{Bool, List, None, Option, Some, false, length, slice_get, true, [], ◌++◌, ◌∷◌}
use Rattle.argus_actions.specs.declared.action_id.ActionId.{ActionId}
use Rattle.argus_language.specs.PlainStep.{SimpleStep, PlainStep, PlainSteps, block, simple, more, none}
use Rattle.argus_language.specs.{Script.PlainScript, declared.action_kind.ActionKind.ActionKind}
use Rattle.argus_language.specs.PlainStep as part
use Rattle.argus_language.specs.declared.block_kind.BlockKind.TheVariants as opening
use Rattle.argus_contents.specs.{Shape.PlainShape, declared.obj_id.ObjId.ObjId}
use Rattle.argus_entries.specs.Call.{PlainCall, abort, abort_others, alter, ask, commit, declare}
use Rattle.argus_entries.specs.{Reply.{PlainReply, answered, begun, object, refused}, declared.refusal.Refusal.Refusal}
use Rattle.argus_journal.specs.Events.{says_yes}
use Rattle.argus_runs.specs.{RunOutcome.{RunOutcome, finished, ◌>>=◌}, Replies.test_call, declared.flow.Flow.Flow}
use Rattle.argus_runs.specs.Replies.{begin_call, begun_by, flow_after, goes_on, is_over, object_number_at, object_of}
use Rattle.argus_runs.specs.declared.flow.Flow.TheVariants as flow

-- whether the step declares an object
abbrev pub is_declaration : PlainStep → Bool
is_declaration (simple part.declare) = true
is_declaration (simple (part.ask x q)) = false
is_declaration (simple (part.alter x c)) = false
is_declaration (simple part.leave) = false
is_declaration (simple part.abort_leave) = false
is_declaration (simple part.leave_all) = false
is_declaration (block o ps) = false

-- Parametrised by a state, by what a call comes to in it, and by how the arms of a coenter are run,
-- if not one after another.
module _ (S : Type 0) (reply : PlainCall → S → RunOutcome S PlainReply)
    (arm_runner : Option (List ObjId → PlainSteps → List (Option ActionId) → S
    → RunOutcome S Flow)) where
  -- a call after which the run goes on, whatever the reply
  abbrev pub then_on : PlainCall → S → RunOutcome S Flow
  then_on call s = reply call s >>= λ r t. finished flow.On t

  -- the end of a block of which a call was refused: an action that isn't over is aborted
  abbrev pub give_up : ActionId → Refusal → S → RunOutcome S Flow
  give_up a r s = elim (is_over r) [ true ↦ finished flow.On s | false ↦ then_on (abort a.0) s ]

  -- what follows a commit: nothing, unless it was refused
  abbrev pub after_commit : ActionId → PlainReply → S → RunOutcome S Flow
  after_commit a (refused r) s = give_up a r s
  after_commit a (object o) s = finished flow.On s
  after_commit a (begun b) s = finished flow.On s
  after_commit a (answered x) s = finished flow.On s

  -- the end of a block by a commit
  abbrev pub commit_block : ActionId → S → RunOutcome S Flow
  commit_block a s = reply (commit a.0) s >>= after_commit a

  -- what follows the end of the siblings: the commit, unless it was refused
  abbrev pub after_others : ActionId → PlainReply → S → RunOutcome S Flow
  after_others a (refused r) s = give_up a r s
  after_others a (object o) s = commit_block a s
  after_others a (begun b) s = commit_block a s
  after_others a (answered x) s = commit_block a s

  -- the end of a block or an arm
  abbrev pub finish : ActionId → Flow → S → RunOutcome S Flow
  finish a flow.On s = commit_block a s
  finish a flow.Leave s = commit_block a s
  finish a flow.AbortLeave s = then_on (abort a.0) s
  finish a flow.LeaveAll s = reply (abort_others a.0) s >>= after_others a
  finish a (flow.Refused r) s = give_up a r s

  -- the beginning of a block or an arm: its action, if it was begun
  abbrev pub begin_one : ActionKind → Option ActionId → S → RunOutcome S (Option ActionId)
  begin_one k within s = reply (begin_call k within) s >>= λ r t. finished (begun_by r) t

  -- the beginning of an arm; nothing else is an arm
  abbrev pub begin_arm : PlainStep → Option ActionId → S → RunOutcome S (Option ActionId)
  begin_arm (simple d) within s = finished None s
  begin_arm (block (opening.Enter k) ps) within s = finished None s
  begin_arm (block (opening.If l x) ps) within s = finished None s
  begin_arm (block opening.Coenter ps) within s = finished None s
  begin_arm (block (opening.Arm k) ps) within s = begin_one k within s

  -- all arms are begun, before any of them runs
  abbrev pub begin_all : PlainSteps → Option ActionId → S → RunOutcome S (List (Option ActionId))
  begin_all none within s = finished [] s
  begin_all (more p ps) within s =
      begin_arm p within s >>= λ b t. begin_all ps within t >>= λ bs u. finished (b ∷ bs) u

  -- the same, with those begun before
  abbrev pub with_front : List (Option ActionId) → RunOutcome S (List (Option ActionId))
      → RunOutcome S (List (Option ActionId))
  with_front front r = r >>= λ bs t. finished (front ++ bs) t

  -- a call that ends a block if it is refused
  abbrev pub access : PlainCall → S → RunOutcome S Flow
  access call s = reply call s >>= λ r t. finished (flow_after r) t

  -- a deed; only a declaration is at top level, and that isn't made here
  abbrev pub run_deed : List ObjId → SimpleStep → Option ActionId → S → RunOutcome S Flow
  run_deed numbers part.declare within s = finished flow.On s
  run_deed numbers (part.ask x q) None s = finished flow.On s
  run_deed numbers (part.ask x q) (Some a) s = access (ask a.0 (object_number_at numbers x) q) s
  run_deed numbers (part.alter x c) None s = finished flow.On s
  run_deed numbers (part.alter x c) (Some a) s = access (alter a.0 (object_number_at numbers x) c) s
  run_deed numbers part.leave within s = finished flow.Leave s
  run_deed numbers part.abort_leave within s = finished flow.AbortLeave s
  run_deed numbers part.leave_all within s = finished flow.LeaveAll s

  abbrev mutual
    -- Steps in order, of an action or at top level, until one ends the block.
    pub run_steps : List ObjId → PlainSteps → Option ActionId → S → RunOutcome S Flow
    run_steps numbers none within s = finished flow.On s
    run_steps numbers (more p ps) within s = run_step numbers p within s
        >>= λ x t. elim (goes_on x) [ true ↦ run_steps numbers ps within t | false ↦ finished x t ]

    -- A step. Only blocks and coenters are at top level.
    pub run_step : List ObjId → PlainStep → Option ActionId → S → RunOutcome S Flow
    run_step numbers (simple d) within s = run_deed numbers d within s
    run_step numbers (block (opening.Enter k) ps) within s = begin_one k within s
        >>= λ b t. elim b [
          | None ↦ finished flow.On t
          | Some a ↦ run_steps numbers ps (Some a) t >>= finish a
        ]
    run_step numbers (block (opening.If l x) ps) None s = finished flow.On s
    run_step numbers (block (opening.If l x) ps) (Some a) s =
        reply (test_call l a (object_number_at numbers x)) s >>= λ r t. elim (says_yes r) [
          | true ↦ run_steps numbers ps (Some a) t
          | false ↦ finished (flow_after r) t
        ]
    run_step numbers (block opening.Coenter arms) within s = begin_all arms within s
        >>= λ bs t. elim arm_runner [
          | None ↦ run_arms numbers arms bs t
          | Some h ↦ h numbers arms bs t
        ]
    run_step numbers (block (opening.Arm k) ps) None s = finished flow.On s
    run_step numbers (block (opening.Arm k) ps) (Some a) s =
        run_steps numbers ps (Some a) s >>= finish a

    -- The arms that were begun, one after another; what ends one doesn't end the next.
    pub run_arms : List ObjId → PlainSteps → List (Option ActionId) → S → RunOutcome S Flow
    run_arms numbers none bs s = finished flow.On s
    run_arms numbers (more p ps) [] s = finished flow.On s
    run_arms numbers (more p ps) (b ∷ bs) s =
        elim b [ None ↦ finished flow.On s | Some a ↦ run_step numbers p (Some a) s ]
        >>= λ x t. run_arms numbers ps bs t

  -- the steps of a block or an arm, and its end
  abbrev pub run_body : List ObjId → PlainSteps → ActionId → S → RunOutcome S Flow
  run_body numbers ps a s = run_steps numbers ps (Some a) s >>= finish a

  -- an arm, if it was begun
  abbrev pub run_arm : List ObjId → PlainStep → Option ActionId → S → RunOutcome S Flow
  run_arm numbers p b s = elim b [
    | None ↦ finished flow.On s
    | Some a ↦ run_step numbers p (Some a) s
  ]

  -- the arms of a coenter, however they are run
  abbrev pub run_arms_by_runner : List ObjId → PlainSteps → List (Option ActionId) → S
      → RunOutcome S Flow
  run_arms_by_runner numbers arms bs t = elim arm_runner [
    | None ↦ run_arms numbers arms bs t
    | Some h ↦ h numbers arms bs t
  ]

  -- the next object is declared, and its name stands for the number that is returned
  abbrev pub declare_next : List PlainShape → List ObjId → S → RunOutcome S (List ObjId)
  declare_next shapes numbers s = elim (slice_get shapes (length numbers)) [
    | None ↦ finished numbers s
    | Some shape ↦ reply (declare shape) s >>= λ r t. finished (numbers ++ object_of r ∷ []) t
  ]

  -- A step at top level: a declaration is made, and any other step is run as one of no action. Its
  -- answer is the numbers that the names stand for so far.
  abbrev pub run_top : List PlainShape → List ObjId → PlainStep → S → RunOutcome S (List ObjId)
  run_top shapes numbers p s = elim (is_declaration p) [
    | true ↦ declare_next shapes numbers s
    | false ↦ run_step numbers p None s >>= λ x t. finished numbers t
  ]

  -- the steps at top level
  abbrev pub run_tops : List PlainShape → List ObjId → PlainSteps → S → RunOutcome S (List ObjId)
  run_tops shapes numbers none s = finished numbers s
  run_tops shapes numbers (more p ps) s =
      run_top shapes numbers p s >>= λ now t. run_tops shapes now ps t

  -- the whole script; its answer is the numbers that its names stand for
  abbrev pub run_script : PlainScript → S → RunOutcome S (List ObjId)
  run_script script s = run_tops script.objects.shapes [] script.parts s
