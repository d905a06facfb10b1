-- If a run stops before its end, its state is a prefix of what the run comes to.
use Rattle.std.proofs.Common.{◌≡◌, ℕ, suc, Bool, false, true, ◌<◌, List, ◌∷◌, ◌++◌, length, get_or, drop, Option, None}
use Rattle.std.proofs.Common.{Result, Some, Vec, rules, Ok, Err, OnErr, sym, ◌∙◌, ap, drop-cons}
use Rattle.std.specs.declared.alloc.Global.{Global}
use Rattle.argus_memory.specs.declared.limited.Limited.{Limited}
use Rattle.argus_actions.specs.declared.action_id.ActionId.{ActionId}
use Rattle.argus_language.specs.PlainStep.{PlainStep, PlainSteps, block, more, plain_step, plain_steps}
use Rattle.argus_language.specs.{declared.action_kind.ActionKind.ActionKind, declared.block_kind.BlockKind.BlockKind}
use Rattle.argus_language.specs.declared.step.Step.{Step}
use Rattle.argus_language.specs.declared.block_kind.BlockKind.TheVariants as opening
use Rattle.argus_language.specs.declared.step.Step as S
use Rattle.argus_contents.specs.{Shape.PlainShape, declared.obj_id.ObjId.ObjId}
use Rattle.argus_entries.specs.{Call.PlainCall, Reply.PlainReply}
use Rattle.argus_runs.specs.{RunOutcome.{RunOutcome, finished}, RunPrefix.IsRunPrefix}
use Rattle.argus_runs.specs.Running.{begin_all, begin_arm, begin_one, declare_next, finish, is_declaration, run_arm}
use Rattle.argus_runs.specs.Running.{run_arms, run_step, run_steps, run_top, run_tops, with_front}
use Rattle.argus_runs.proofs.Growth.{ExtendingCalls, arms_grow, begin_on, begin_on_grows, finish_grows, go_on}
use Rattle.argus_runs.proofs.{Growth.{go_on_grows, parts_grow, tops_grow, within_then}, Simulation.ArmRunner}

-- a call that stops early stops at a prefix, where the laws of its caller show it
pub stops : {S X A E : Type 0} (r : Result A E) (d k : Bool) (is_prefix : S → S → Type 0)
    (reply : PlainCall → S → RunOutcome S PlainReply) (arm_runner : ArmRunner S) (s : S) (m : RunOutcome S X)
    → (k ≡ true → arm_runner ≡ None) → (k ≡ true → (t : S) → is_prefix t t)
    → (k ≡ true → (t u v : S) → is_prefix t u → is_prefix u v → is_prefix t v)
    → (k ≡ true → (call : PlainCall) (t : S) → IsRunPrefix is_prefix t (reply call t))
    → (d ≡ true → k ≡ true → ExtendingCalls S is_prefix reply arm_runner → IsRunPrefix is_prefix s m)
    → OnErr r (d ≡ true → k ≡ true → IsRunPrefix is_prefix s m)
stops (Ok x) d k is_prefix reply arm_runner s m none same on extends p = tt
stops (Err x) d k is_prefix reply arm_runner s m none same on extends p = λ a e.
    p a e (record { no_arm_runner = none e; same = same e; on = on e; call_extends = extends e })

item : {A : Type 0} (xs : List A) (i : ℕ) (x : A) → i < length xs → x ≡ get_or xs i x → drop i xs ≡ x ∷ drop (suc i) xs
item xs i x b e = drop-cons xs i x b ∙ ap (λ y. y ∷ drop (suc i) xs) (sym e)

plain-block : (o : BlockKind) (v : Vec Step (Limited Global)) → plain_step (S.Block o v) ≡ block o (plain_steps v.items)
plain-block o v = search (rules, S.the_lemmas)

pub is_block : (x : Step) (o k : BlockKind) (v : Vec Step (Limited Global)) → x ≡ S.Block o v → o ≡ k
    → plain_step x ≡ block k (plain_steps v.items)
is_block x o k v e d = ap plain_step e ∙ plain-block o v ∙ ap (λ h. block h (plain_steps v.items)) d

module _ {S : Type 0} {is_prefix : S → S → Type 0} {reply : PlainCall → S → RunOutcome S PlainReply}
    {arm_runner : ArmRunner S} (l : ExtendingCalls S is_prefix reply arm_runner) where
  pub begins_early : (arms : List Step) (i : ℕ) (x : Step) (fs : List (Option ActionId)) (w : Option ActionId)
      (s u t : S) → i < length arms → x ≡ get_or arms i x → begin_all S reply arm_runner (plain_steps arms) w s
      ≡ with_front S reply arm_runner fs (begin_all S reply arm_runner (plain_steps (drop i arms)) w u)
      → IsRunPrefix is_prefix t (begin_arm S reply arm_runner (plain_step x) w u)
      → IsRunPrefix is_prefix t (begin_all S reply arm_runner (plain_steps arms) w s)
  begins_early arms i x fs w s u t b e p q = let ps = plain_steps (drop (suc i) arms) in rw p (rw (item arms i x b e)
      (within_then l t (begin_all S reply arm_runner (more (plain_step x) ps) w u) (λ bs v. finished (fs ++ bs) v)
      (within_then l t (begin_arm S reply arm_runner (plain_step x) w u) (begin_on l ps w) q (begin_on_grows l ps w))
      (λ bs v. l.same v)))

  pub steps_early : (ns : List ObjId) (steps : List Step) (i : ℕ) (x : Step) (w : Option ActionId) (s u t : S)
      → i < length steps → x ≡ get_or steps i x → run_steps S reply arm_runner ns (plain_steps steps) w s
      ≡ run_steps S reply arm_runner ns (plain_steps (drop i steps)) w u
      → IsRunPrefix is_prefix t (run_step S reply arm_runner ns (plain_step x) w u)
      → IsRunPrefix is_prefix t (run_steps S reply arm_runner ns (plain_steps steps) w s)
  steps_early ns steps i x w s u t b e p q = let ps = plain_steps (drop (suc i) steps) in rw p (rw (item steps i x b e)
      (within_then l t (run_step S reply arm_runner ns (plain_step x) w u) (go_on l ns ps w) q
      (go_on_grows l ns ps w (parts_grow l ns ps))))

  -- of a block's action, where its steps stop
  pub arm_early : (ns : List ObjId) (k : ActionKind) (ps : PlainSteps) (a : ActionId) (s u : S)
      → IsRunPrefix is_prefix u (run_steps S reply arm_runner ns ps (Some a) s)
      → IsRunPrefix is_prefix u (run_step S reply arm_runner ns (block (opening.Arm k) ps) (Some a) s)
  arm_early ns k ps a s u q =
      within_then l u (run_steps S reply arm_runner ns ps (Some a) s) (finish S reply arm_runner a) q (finish_grows l a)

  -- of a block's action, where it begins and where they stop
  pub enter_early : (ns : List ObjId) (k : ActionKind) (ps : PlainSteps) (w : Option ActionId) (a : ActionId)
      (s v u : S) → begin_one S reply arm_runner k w s ≡ finished (Some a) v
      → IsRunPrefix is_prefix u (run_steps S reply arm_runner ns ps (Some a) v)
      → IsRunPrefix is_prefix u (run_step S reply arm_runner ns (block (opening.Enter k) ps) w s)
  enter_early ns k ps w a s v u e q = rw e (arm_early ns k ps a v u q)

  pub declaration_early : (shapes : List PlainShape) (ns : List ObjId) (p : PlainStep) (u t : S)
      → is_declaration p ≡ true → IsRunPrefix is_prefix t (declare_next S reply arm_runner shapes ns u)
      → IsRunPrefix is_prefix t (run_top S reply arm_runner shapes ns p u)
  declaration_early shapes ns p u t d q = rw (run_top, d) q

  pub top_early : (shapes : List PlainShape) (ns : List ObjId) (p : PlainStep) (u t : S)
      → is_declaration p ≡ false → IsRunPrefix is_prefix t (run_step S reply arm_runner ns p None u)
      → IsRunPrefix is_prefix t (run_top S reply arm_runner shapes ns p u)
  top_early shapes ns p u t d q = rw (run_top, d) (within_then l t (run_step S reply arm_runner ns p None u)
      (λ x v. finished ns v) q (λ x v. l.same v))

  pub tops_early : (shapes : List PlainShape) (ns : List ObjId) (steps : List Step) (i : ℕ) (x : Step)
      (m : RunOutcome S (List ObjId)) (u t : S) → i < length steps → x ≡ get_or steps i x
      → m ≡ run_tops S reply arm_runner shapes ns (plain_steps (drop i steps)) u
      → IsRunPrefix is_prefix t (run_top S reply arm_runner shapes ns (plain_step x) u) → IsRunPrefix is_prefix t m
  tops_early shapes ns steps i x m u t b e p q = let ps = plain_steps (drop (suc i) steps) in
      rw p (rw (item steps i x b e) (within_then l t (run_top S reply arm_runner shapes ns (plain_step x) u)
      (λ now v. run_tops S reply arm_runner shapes now ps v) q (λ now v. tops_grow l shapes now ps v)))

  pub arms_early : (ns : List ObjId) (arms : List Step) (bs : List (Option ActionId)) (i : ℕ) (x : Step) (s u t : S)
      → i < length arms → length bs ≡ length arms → x ≡ get_or arms i x
      → run_arms S reply arm_runner ns (plain_steps arms) bs s
      ≡ run_arms S reply arm_runner ns (plain_steps (drop i arms)) (drop i bs) u
      → IsRunPrefix is_prefix t (run_arm S reply arm_runner ns (plain_step x) (get_or bs i None) u)
      → IsRunPrefix is_prefix t (run_arms S reply arm_runner ns (plain_steps arms) bs s)
  arms_early ns arms bs i x s u t less len e p q = let ps = plain_steps (drop (suc i) arms) in
      let m : i < length bs = rw len less in
      rw p (rw (item arms i x less e) (rw (drop-cons bs i None m)
      (within_then l t (run_arm S reply arm_runner ns (plain_step x) (get_or bs i None) u)
      (λ y v. run_arms S reply arm_runner ns ps (drop (suc i) bs) v) q (λ y v. arms_grow l ns ps (drop (suc i) bs) v))))
