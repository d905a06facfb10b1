-- Runs of one script by two callers: what relates their calls relates their runs.
use Rattle.std.proofs.Common.{Bool, true, false, List, [], ◌∷◌, ◌++◌, Option, Some, None, length, slice_get}
use Rattle.argus_actions.specs.declared.action_id.ActionId.{ActionId}
use Rattle.argus_language.specs.PlainStep.{SimpleStep, PlainStep, PlainSteps, block, simple, more, none}
use Rattle.argus_language.specs.PlainStep as part
use Rattle.argus_language.specs.declared.block_kind.BlockKind.TheVariants as opening
use Rattle.argus_contents.specs.{Shape.PlainShape, declared.obj_id.ObjId.ObjId}
use Rattle.argus_entries.specs.Call.{PlainCall, abort, abort_others, alter, ask, commit, declare}
use Rattle.argus_entries.specs.{Reply.{PlainReply, answered, begun, object, refused}, declared.refusal.Refusal.Refusal}
use Rattle.argus_journal.specs.Events.{says_yes}
use Rattle.argus_runs.specs.{RunOutcome.{RunOutcome, finished, ◌>>=◌}, Replies.test_call, declared.flow.Flow.Flow}
use Rattle.argus_runs.specs.Replies.{begin_call, begun_by, flow_after, goes_on, is_over, object_number_at, object_of}
use Rattle.argus_runs.specs.Running.{after_commit, after_others, begin_all, begin_arm, begin_one, commit_block}
use Rattle.argus_runs.specs.Running.{declare_next, finish, give_up, is_declaration, run_arms, run_arms_by_runner}
use Rattle.argus_runs.specs.Running.{run_deed, run_step, run_steps, run_top, run_tops, then_on}
use Rattle.argus_runs.specs.declared.flow.Flow.TheVariants as flow

abbrev pub Reply : Type 0 → Type 0
Reply S = PlainCall → S → RunOutcome S PlainReply

-- who runs the arms of a coenter otherwise
abbrev pub ArmRunner : Type 0 → Type 0
ArmRunner S = Option (List ObjId → PlainSteps → List (Option ActionId) → S → RunOutcome S Flow)

-- what follows a step or a test, a beginning, a look for the shape of the next object
module _ (S : Type 0) (reply : Reply S) (arm_runner : ArmRunner S) where
  abbrev pub go_on : List ObjId → PlainSteps → Option ActionId → Bool → Flow → S → RunOutcome S Flow
  go_on ns ps w b x t = elim b [ true ↦ run_steps S reply arm_runner ns ps w t | false ↦ finished x t ]

  abbrev pub enter_on : List ObjId → PlainSteps → Option ActionId → S → RunOutcome S Flow
  enter_on ns ps b t = elim b [
    | None ↦ finished flow.On t
    | Some a ↦ run_steps S reply arm_runner ns ps (Some a) t >>= finish S reply arm_runner a
  ]

  abbrev pub declare_on : List ObjId → Option PlainShape → S → RunOutcome S (List ObjId)
  declare_on ns found s = elim found [
    | None ↦ finished ns s
    | Some shape ↦ reply (declare shape) s >>= λ r t. finished (ns ++ object_of r ∷ []) t
  ]

module _ (S T : Type 0) (reply : Reply S) (told : Reply T)
    (Related : (X : Type 0) → S → RunOutcome S X → (T → RunOutcome T X) → Type 0) where
  -- Related are answers without a call, one thing after another, and calls.
  pub record Simulates : Type 1 where
    pub stays : (X : Type 0) (x : X) (s : S) → Related X s (finished x s) (λ t. finished x t)
    pub on : (X Y : Type 0) (s : S) (m : RunOutcome S X) (n : T → RunOutcome T X) (f : X → S → RunOutcome S Y)
        (g : X → T → RunOutcome T Y) → Related X s m n → ((x : X) (u : S) → Related Y u (f x u) (g x))
        → Related Y s (m >>= f) (λ t. n t >>= g)
    pub call : (c : PlainCall) (s : S) → Related PlainReply s (reply c s) (told c)

  -- arms that are handed over come to what arms come to that run one after another
  abbrev pub Handed : ArmRunner S → Type 0
  Handed None = Unit {0}
  Handed (Some h) = (ns : List ObjId) (ps : PlainSteps) (bs : List (Option ActionId)) (s : S)
      → Related Flow s (h ns ps bs s) (run_arms T told None ns ps bs)

  unhanded : (h : ArmRunner S) (ns : List ObjId) (ps : PlainSteps) (bs : List (Option ActionId)) (s : S)
      (m : RunOutcome S Flow) → Handed h → Related Flow s m (run_arms T told None ns ps bs)
      → Related Flow s (elim h [ None ↦ m | Some g ↦ g ns ps bs s ]) (run_arms T told None ns ps bs)
  unhanded None ns ps bs s m k p = p
  unhanded (Some g) ns ps bs s m k p = k ns ps bs s

  module _ (is : Simulates) (hand : ArmRunner S) (handed : Handed hand) where
    stays : {X : Type 0} (x : X) (s : S) → Related X s (finished x s) (λ t. finished x t)
    stays {X} x s = is.stays X x s

    -- a call, and then an answer that goes by its reply
    called : {X : Type 0} (c : PlainCall) (s : S) (x : PlainReply → X)
        → Related X s (reply c s >>= λ r t. finished (x r) t) (λ t. told c t >>= λ r u. finished (x r) u)
    called {X} c s x = is.on PlainReply X s (reply c s) (told c) (λ r t. finished (x r) t) (λ r t. finished (x r) t)
        (is.call c s) (λ r t. stays (x r) t)

    -- a call, and what follows its reply
    call_then : (c : PlainCall) (s : S) (f : PlainReply → S → RunOutcome S Flow)
        (g : PlainReply → T → RunOutcome T Flow) → ((r : PlainReply) (u : S) → Related Flow u (f r u) (g r))
        → Related Flow s (reply c s >>= f) (λ t. told c t >>= g)
    call_then c s f g p = is.on PlainReply Flow s (reply c s) (told c) f g (is.call c s) p

    then_related : (c : PlainCall) (s : S) → Related Flow s (then_on S reply hand c s) (then_on T told None c)
    then_related c s = called c s (λ r. flow.On)

    unless_related : (b : Bool) (a : ActionId) (s : S)
        → Related Flow s (elim b [ true ↦ finished flow.On s | false ↦ then_on S reply hand (abort a.0) s ])
        (λ t. elim b [ true ↦ finished flow.On t | false ↦ then_on T told None (abort a.0) t ])
    unless_related true a s = stays flow.On s
    unless_related false a s = then_related (abort a.0) s

    give_up_related : (a : ActionId) (r : Refusal) (s : S)
        → Related Flow s (give_up S reply hand a r s) (give_up T told None a r)
    give_up_related a r s = unless_related (is_over r) a s

    after_commit_related : (a : ActionId) (r : PlainReply) (s : S)
        → Related Flow s (after_commit S reply hand a r s) (after_commit T told None a r)
    after_commit_related a (refused r) s = give_up_related a r s
    after_commit_related a (object o) s = stays flow.On s
    after_commit_related a (begun b) s = stays flow.On s
    after_commit_related a (answered x) s = stays flow.On s

    commit_related : (a : ActionId) (s : S)
        → Related Flow s (commit_block S reply hand a s) (commit_block T told None a)
    commit_related a s = call_then (commit a.0) s (after_commit S reply hand a) (after_commit T told None a)
        (after_commit_related a)

    after_others_related : (a : ActionId) (r : PlainReply) (s : S)
        → Related Flow s (after_others S reply hand a r s) (after_others T told None a r)
    after_others_related a (refused r) s = give_up_related a r s
    after_others_related a (object o) s = commit_related a s
    after_others_related a (begun b) s = commit_related a s
    after_others_related a (answered x) s = commit_related a s

    pub finish_related : (a : ActionId) (x : Flow) (s : S)
        → Related Flow s (finish S reply hand a x s) (finish T told None a x)
    finish_related a flow.On s = commit_related a s
    finish_related a flow.Leave s = commit_related a s
    finish_related a flow.AbortLeave s = then_related (abort a.0) s
    finish_related a flow.LeaveAll s = call_then (abort_others a.0) s (after_others S reply hand a)
        (after_others T told None a) (after_others_related a)
    finish_related a (flow.Refused r) s = give_up_related a r s

    begin_arm_related : (p : PlainStep) (w : Option ActionId) (s : S)
        → Related (Option ActionId) s (begin_arm S reply hand p w s) (begin_arm T told None p w)
    begin_arm_related (simple d) w s = stays None s
    begin_arm_related (block (opening.Enter k) ps) w s = stays None s
    begin_arm_related (block (opening.If o x) ps) w s = stays None s
    begin_arm_related (block opening.Coenter ps) w s = stays None s
    begin_arm_related (block (opening.Arm k) ps) w s = called (begin_call k w) s begun_by

    pub begin_all_related : (ps : PlainSteps) (w : Option ActionId) (s : S)
        → Related (List (Option ActionId)) s (begin_all S reply hand ps w s) (begin_all T told None ps w)
    begin_all_related none w s = stays [] s
    begin_all_related (more p ps) w s = is.on _ _ s (begin_arm S reply hand p w s) (begin_arm T told None p w)
        (λ b t. begin_all S reply hand ps w t >>= λ bs u. finished (b ∷ bs) u)
        (λ b t. begin_all T told None ps w t >>= λ bs u. finished (b ∷ bs) u) (begin_arm_related p w s)
        (λ b t. is.on _ _ t (begin_all S reply hand ps w t) (begin_all T told None ps w)
        (λ bs u. finished (b ∷ bs) u) (λ bs u. finished (b ∷ bs) u) (begin_all_related ps w t)
        (λ bs u. stays (b ∷ bs) u))

    deed_related : (ns : List ObjId) (d : SimpleStep) (w : Option ActionId) (s : S)
        → Related Flow s (run_deed S reply hand ns d w s) (run_deed T told None ns d w)
    deed_related ns part.declare w s = stays flow.On s
    deed_related ns (part.ask x q) None s = stays flow.On s
    deed_related ns (part.ask x q) (Some a) s = called (ask a.0 (object_number_at ns x) q) s flow_after
    deed_related ns (part.alter x c) None s = stays flow.On s
    deed_related ns (part.alter x c) (Some a) s = called (alter a.0 (object_number_at ns x) c) s flow_after
    deed_related ns part.leave w s = stays flow.Leave s
    deed_related ns part.abort_leave w s = stays flow.AbortLeave s
    deed_related ns part.leave_all w s = stays flow.LeaveAll s

    abbrev Whole : List ObjId → PlainSteps → Type 0
    Whole ns ps = (w : Option ActionId) (s : S)
        → Related Flow s (run_steps S reply hand ns ps w s) (run_steps T told None ns ps w)

    go_related : (ns : List ObjId) (ps : PlainSteps) (w : Option ActionId) (b : Bool) (x : Flow) → Whole ns ps → (s : S)
        → Related Flow s (go_on S reply hand ns ps w b x s) (go_on T told None ns ps w b x)
    go_related ns ps w true x h s = h w s
    go_related ns ps w false x h s = stays x s

    body_related : (ns : List ObjId) (ps : PlainSteps) → Whole ns ps → (a : ActionId) (s : S)
        → Related Flow s (run_steps S reply hand ns ps (Some a) s >>= finish S reply hand a)
        (λ t. run_steps T told None ns ps (Some a) t >>= finish T told None a)
    body_related ns ps h a s = is.on Flow Flow s (run_steps S reply hand ns ps (Some a) s)
        (run_steps T told None ns ps (Some a)) (finish S reply hand a) (finish T told None a) (h (Some a) s)
        (finish_related a)

    enter_related : (ns : List ObjId) (ps : PlainSteps) → Whole ns ps → (b : Option ActionId) (s : S)
        → Related Flow s (enter_on S reply hand ns ps b s) (enter_on T told None ns ps b)
    enter_related ns ps h None s = stays flow.On s
    enter_related ns ps h (Some a) s = body_related ns ps h a s

    mutual
      pub parts_related : (ns : List ObjId) (ps : PlainSteps) (w : Option ActionId) (s : S)
          → Related Flow s (run_steps S reply hand ns ps w s) (run_steps T told None ns ps w)
      parts_related ns none w s = stays flow.On s
      parts_related ns (more p ps) w s = is.on Flow Flow s (run_step S reply hand ns p w s)
          (run_step T told None ns p w)
          (λ x t. go_on S reply hand ns ps w (goes_on x) x t) (λ x t. go_on T told None ns ps w (goes_on x) x t)
          (part_related ns p w s) (λ x t. go_related ns ps w (goes_on x) x (parts_related ns ps) t)

      pub part_related : (ns : List ObjId) (p : PlainStep) (w : Option ActionId) (s : S)
          → Related Flow s (run_step S reply hand ns p w s) (run_step T told None ns p w)
      part_related ns (simple d) w s = deed_related ns d w s
      part_related ns (block (opening.Enter k) ps) w s = is.on (Option ActionId) Flow s (begin_one S reply hand k w s)
          (begin_one T told None k w) (enter_on S reply hand ns ps) (enter_on T told None ns ps)
          (called (begin_call k w) s begun_by) (enter_related ns ps (parts_related ns ps))
      part_related ns (block (opening.If o x) ps) None s = stays flow.On s
      part_related ns (block (opening.If o x) ps) (Some a) s = call_then (test_call o a (object_number_at ns x)) s
          (λ r t. go_on S reply hand ns ps (Some a) (says_yes r) (flow_after r) t)
          (λ r t. go_on T told None ns ps (Some a) (says_yes r) (flow_after r) t)
          (λ r t. go_related ns ps (Some a) (says_yes r) (flow_after r) (parts_related ns ps) t)
      part_related ns (block opening.Coenter ps) w s = is.on (List (Option ActionId)) Flow s
          (begin_all S reply hand ps w s) (begin_all T told None ps w) (run_arms_by_runner S reply hand ns ps)
          (run_arms T told None ns ps) (begin_all_related ps w s)
          (λ bs t. unhanded hand ns ps bs t (run_arms S reply hand ns ps bs t) handed (arms_related ns ps bs t))
      part_related ns (block (opening.Arm k) ps) None s = stays flow.On s
      part_related ns (block (opening.Arm k) ps) (Some a) s = body_related ns ps (parts_related ns ps) a s

      pub arms_related : (ns : List ObjId) (ps : PlainSteps) (bs : List (Option ActionId)) (s : S)
          → Related Flow s (run_arms S reply hand ns ps bs s) (run_arms T told None ns ps bs)
      arms_related ns none bs s = stays flow.On s
      arms_related ns (more p ps) [] s = stays flow.On s
      arms_related ns (more p ps) (None ∷ bs) s = arms_related ns ps bs s
      arms_related ns (more p ps) (Some a ∷ bs) s = is.on Flow Flow s (run_step S reply hand ns p (Some a) s)
          (run_step T told None ns p (Some a)) (λ x t. run_arms S reply hand ns ps bs t)
          (λ x t. run_arms T told None ns ps bs t) (part_related ns p (Some a) s) (λ x t. arms_related ns ps bs t)

    pub handed_related : (ns : List ObjId) (ps : PlainSteps) (bs : List (Option ActionId)) (s : S)
        → Related Flow s (run_arms_by_runner S reply hand ns ps bs s) (run_arms T told None ns ps bs)
    handed_related ns ps bs s = unhanded hand ns ps bs s (run_arms S reply hand ns ps bs s) handed
        (arms_related ns ps bs s)

    pub declare_related : (ns : List ObjId) (found : Option PlainShape) (s : S)
        → Related (List ObjId) s (declare_on S reply hand ns found s) (declare_on T told None ns found)
    declare_related ns None s = stays ns s
    declare_related ns (Some shape) s = called (declare shape) s (λ r. ns ++ object_of r ∷ [])

    by_declaration : (b : Bool) (shapes : List PlainShape) (ns : List ObjId) (p : PlainStep) (s : S)
        → Related (List ObjId) s (elim b [
          | true ↦ declare_next S reply hand shapes ns s
          | false ↦ run_step S reply hand ns p None s >>= λ x t. finished ns t
        ]) (λ u. elim b [
          | true ↦ declare_next T told None shapes ns u
          | false ↦ run_step T told None ns p None u >>= λ x t. finished ns t
        ])
    by_declaration true shapes ns p s = declare_related ns (slice_get shapes (length ns)) s
    by_declaration false shapes ns p s = is.on Flow (List ObjId) s (run_step S reply hand ns p None s)
        (run_step T told None ns p None) (λ x t. finished ns t) (λ x t. finished ns t) (part_related ns p None s)
        (λ x t. stays ns t)

    pub top_related : (shapes : List PlainShape) (ns : List ObjId) (p : PlainStep) (s : S)
        → Related (List ObjId) s (run_top S reply hand shapes ns p s) (run_top T told None shapes ns p)
    top_related shapes ns p s = by_declaration (is_declaration p) shapes ns p s

    pub tops_related : (shapes : List PlainShape) (ns : List ObjId) (ps : PlainSteps) (s : S)
        → Related (List ObjId) s (run_tops S reply hand shapes ns ps s) (run_tops T told None shapes ns ps)
    tops_related shapes ns none s = stays ns s
    tops_related shapes ns (more p ps) s = is.on (List ObjId) (List ObjId) s (run_top S reply hand shapes ns p s)
        (run_top T told None shapes ns p) (λ now t. run_tops S reply hand shapes now ps t)
        (λ now t. run_tops T told None shapes now ps t) (top_related shapes ns p s)
        (λ now t. tops_related shapes now ps t)
