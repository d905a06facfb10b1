-- A caller that answers from the receipts of a run comes to the same as one that answers from their entries, and each
-- arm ended as its last call shows.
use Rattle.std.proofs.Common.{Bool, List, None, Option, Some, [], ap, cond, false, refl, subst, true, ℕ, ◌+◌, ◌∙◌, ◌∷◌}
use Rattle.std.proofs.Common.{◌≡◌}
use Rattle.argus_actions.specs.declared.action_id.ActionId.{ActionId}
use Rattle.argus_language.specs.{PlainStep.{PlainStep, PlainSteps, more, none}, Script.PlainScript}
use Rattle.argus_contents.specs.declared.obj_id.ObjId.{ObjId}
use Rattle.argus_entries.specs.{Call.PlainCall, Entry.PlainEntry, Same.same_call}
use Rattle.argus_sharing.specs.Receipt.{PlainReceipt}
use Rattle.argus_runs.specs.{RunOutcome.{RunOutcome, finished, mismatched, ◌>>=◌}, Played.reply_from_entries}
use Rattle.argus_runs.specs.{Running.{run_arm, run_arms, run_script}, declared.flow.Flow.Flow}
use Rattle.argus_runs.specs.declared.flow.Flow.TheVariants as flow
use Rattle.argus_runs.proofs.Simulation.{Simulates, part_related, tops_related}
use Rattle.argus_workers.specs.{Laws.CheckedRunsAreRuns, Outcomes.{AreShown, ended_as}, declared.ended.Ended.Ended}
use Rattle.argus_workers.specs.RunCheck.{CheckState, check_arms, end_arm, enter_arm, entries_of_receipts, leave_arm}
use Rattle.argus_workers.specs.RunCheck.{reply_from_receipt, reply_from_receipts, start, with_call}
use Rattle.argus_workers.proofs.Endings.{AreShownSo, IsTold, behind_coenter, keeping_told, none_shown, shown_whole}
use Rattle.argus_workers.proofs.{Endings.{told_in_arm, told_outside}, Keeping.Keeping}

-- entries that are told
abbrev pub Es : Type 0
Es = List PlainEntry

-- the entries still to be told
abbrev pub left : CheckState → Es
left s = entries_of_receipts s.left

-- What a run of receipts comes to, a run of their entries comes to; and what each call keeps of the state is kept.
-- Where the receipts' run comes to nothing, nothing is said.
abbrev pub Follows : {X : Type 0} → (CheckState → CheckState → Type 0) → CheckState → RunOutcome CheckState X
    → RunOutcome Es X → Type 0
Follows keeps s (finished x t) n = (n ≡ finished x (left t)) × keeps s t
Follows keeps s mismatched n = Unit {0}

module _ (keeps : CheckState → CheckState → Type 0) (keeping : Keeping keeps) where
  -- the run of the receipts comes to what that of their entries comes to
  abbrev pub Fits : {X : Type 0} → CheckState → RunOutcome CheckState X → RunOutcome Es X → Type 0
  Fits s m n = Follows keeps s m n

  on_from : {Y : Type 0} (s t : CheckState) (m : RunOutcome CheckState Y) (n k : RunOutcome Es Y) → keeps s t → k ≡ n
      → Fits t m n → Fits s m k
  on_from s t (finished y u) n k p e (q, r) = (e ∙ q, keeping.on s t u p r)
  on_from s t mismatched n k p e f = tt

  then_fits : {X Y : Type 0} (s : CheckState) (m : RunOutcome CheckState X) (n : RunOutcome Es X)
      (f : X → CheckState → RunOutcome CheckState Y) (g : X → Es → RunOutcome Es Y) → Fits s m n
      → ((x : X) (t : CheckState) → Fits t (f x t) (g x (left t))) → Fits s (m >>= f) (n >>= g)
  then_fits s (finished x t) n f g (e, p) q =
      on_from s t (f x t) (g x (left t)) (n >>= g) p (ap (λ z. z >>= g) e) (q x t)
  then_fits s mismatched n f g e q = tt

  if_same : (b : Bool) (r : PlainReceipt) (rest : List PlainReceipt) (s : CheckState) → s.left ≡ r ∷ rest
      → Fits s (cond b (finished r.entry.reply (with_call r rest s)) mismatched)
      (cond b (finished r.entry.reply (entries_of_receipts rest)) mismatched)
  if_same true r rest s e = (refl, keeping.told r rest s e)
  if_same false r rest s e = tt

  next_fits : (rs : List PlainReceipt) (c : PlainCall) (s : CheckState) → s.left ≡ rs
      → Fits s (reply_from_receipt rs c s) (reply_from_entries c (entries_of_receipts rs))
  next_fits [] c s e = tt
  next_fits (r ∷ rest) c s e = if_same (same_call r.entry.call c) r rest s e

  -- the receipts' replies are those of their entries
  told_runs : Simulates CheckState Es reply_from_receipts reply_from_entries (λ X s m n. Fits s m (n (left s)))
  told_runs = record {
    stays = λ X x s. (refl, keeping.same s);
    on = λ X Y s m n f g p q. then_fits s m (n (left s)) f g p q;
    call = λ c s. next_fits s.left c s refl;
  }

-- A run of a script on receipts: who made each call, and what became of the arms.
module _ (receipts : List PlainReceipt) where
  -- outside arms, where so many arms of the next coenter have run, each outcome is shown
  abbrev pub IsShownAt : ℕ → CheckState → Type 0
  IsShownAt k s = (s.arm ≡ None) × (told : List PlainReceipt)
      × AreShownSo receipts told s.left s.coenters k s.calls s.outcomes

  -- behind all arms it is shown of these, too
  abbrev pub KeepsFrom : ℕ → CheckState → CheckState → Type 0
  KeepsFrom k s t = IsShownAt k s → IsShownAt 0 t

  keeping : Keeping (KeepsFrom 0)
  keeping = record {
    same = λ s h. h;
    on = λ s t u f g h. g (f h);
    told = λ r rest s e h. told_outside receipts 0 s (with_call r rest s) h.0 h.1 h.2 (keeping_told.told r rest s e);
  }

  follows_by : {X : Type 0} (k : ℕ) (s u : CheckState) (m : RunOutcome CheckState X) (n o : RunOutcome Es X)
      → (IsShownAt k s → IsShownAt (k + 1) u) → o ≡ n → Follows (KeepsFrom (k + 1)) u m n → Follows (KeepsFrom k) s m o
  follows_by k s u (finished x t) n o f e (p, g) = (e ∙ p, λ h. g (f h))
  follows_by k s u mismatched n o f e g = tt

  shown_in_arm : (k : ℕ) (b : Option ActionId) (s t : CheckState) (ended : Ended) → IsShownAt k s
      → IsTold (enter_arm k s) t → ended_as b t.last ≡ Some ended → IsShownAt (k + 1) (leave_arm k b ended t)
  shown_in_arm k b s t ended h p e =
      let (now, g) = told_in_arm receipts k b ended s t h.1 h.2 p e in (refl, now, g)

  -- an arm ends
  ends : (k : ℕ) (b : Option ActionId) (s t : CheckState) (ended : Option Ended) (f : CheckState
      → RunOutcome CheckState Flow) (n : RunOutcome Es Flow) (o : RunOutcome Es Flow) → ended_as b t.last ≡ ended
      → IsTold (enter_arm k s) t → o ≡ n → ((u : CheckState) → left u ≡ left t → Follows (KeepsFrom (k + 1)) u (f u) n)
      → Follows (KeepsFrom k) s (elim ended [
        | None ↦ mismatched
        | Some e ↦ finished flow.On (leave_arm k b e t)
      ] >>= λ x u. f u) o
  ends k b s t None f n o e p q g = tt
  ends k b s t (Some ended) f n o e p q g = follows_by k s (leave_arm k b ended t) (f (leave_arm k b ended t)) n o
      (λ h. shown_in_arm k b s t ended h p e) q (g (leave_arm k b ended t) refl)

  arm_then : (k : ℕ) (b : Option ActionId) (s : CheckState) (m : RunOutcome CheckState Flow) (n : RunOutcome Es Flow)
      (f : CheckState → RunOutcome CheckState Flow) (g : Es → RunOutcome Es Flow) → Follows IsTold (enter_arm k s) m n
      → ((u : CheckState) → Follows (KeepsFrom (k + 1)) u (f u) (g (left u)))
      → Follows (KeepsFrom k) s ((m >>= λ x t. end_arm k b t) >>= λ x u. f u) (n >>= λ x es. g es)
  arm_then k b s (finished x t) n f g (e, p) q = ends k b s t (ended_as b t.last) f (g (left t)) (n >>= λ x es. g es)
      refl p (ap (λ z. z >>= λ x es. g es) e) (λ u l. subst (λ es. Follows (KeepsFrom (k + 1)) u (f u) (g es)) l (q u))
  arm_then k b s mismatched n f g e q = tt

  -- an arm of an outermost coenter
  arm_told : (ns : List ObjId) (p : PlainStep) (b : Option ActionId) (s : CheckState)
      → Follows IsTold s (run_arm CheckState reply_from_receipts None ns p b s)
      (run_arm Es reply_from_entries None ns p b (left s))
  arm_told ns p None s = (refl, keeping_told.same s)
  arm_told ns p (Some a) s = part_related CheckState Es reply_from_receipts reply_from_entries
      (λ X u m n. Follows IsTold u m (n (left u))) (told_runs IsTold keeping_told) None tt ns p (Some a) s

  one_coenter_more : (k : ℕ) (s : CheckState) → KeepsFrom k s (record s { coenters = s.coenters + 1 })
  one_coenter_more k s (a, told, h) = (a, told, behind_coenter receipts told k s h)

  outermost_told : (k : ℕ) (ns : List ObjId) (ps : PlainSteps) (bs : List (Option ActionId)) (s : CheckState)
      → Follows (KeepsFrom k) s (check_arms k ns ps bs s) (run_arms Es reply_from_entries None ns ps bs (left s))
  outermost_told k ns none bs s = (refl, one_coenter_more k s)
  outermost_told k ns (more p ps) [] s = (refl, one_coenter_more k s)
  outermost_told k ns (more p ps) (b ∷ bs) s = arm_then k b s
      (run_arm CheckState reply_from_receipts None ns p b (enter_arm k s))
      (run_arm Es reply_from_entries None ns p b (left s)) (check_arms (k + 1) ns ps bs)
      (run_arms Es reply_from_entries None ns ps bs) (arm_told ns p b (enter_arm k s)) (outermost_told (k + 1) ns ps bs)

  -- a script's run on the receipts
  script_told : (script : PlainScript) (numbers : List ObjId) (end : CheckState)
      → run_script CheckState reply_from_receipts (Some (check_arms 0)) script (start receipts) ≡ finished numbers end
      → (run_script Es reply_from_entries None script (entries_of_receipts receipts) ≡ finished numbers (left end))
      × KeepsFrom 0 (start receipts) end
  script_told script numbers end e = subst (λ m. Follows (KeepsFrom 0) (start receipts) m
      (run_script Es reply_from_entries None script (entries_of_receipts receipts))) e
      (tops_related CheckState Es reply_from_receipts reply_from_entries
      (λ X u m n. Follows (KeepsFrom 0) u m (n (left u))) (told_runs (KeepsFrom 0) keeping) (Some (check_arms 0))
      (outermost_told 0) script.objects.shapes [] script.parts (start receipts))

-- each arm ended as its last call shows
pub arms_are_shown : (script : PlainScript) (receipts : List PlainReceipt) (numbers : List ObjId) (end : CheckState)
    → run_script CheckState reply_from_receipts (Some (check_arms 0)) script (start receipts) ≡ finished numbers end
    → end.left ≡ [] → AreShown end.calls (entries_of_receipts receipts) end.outcomes
arms_are_shown script receipts numbers end e w =
    let (arm, told, h) = (script_told receipts script numbers end e).1 (refl, [], none_shown receipts) in
    shown_whole receipts told end.left end.coenters 0 end.calls end.outcomes h w

pub checked-runs-are-runs : CheckedRunsAreRuns
checked-runs-are-runs script receipts outcomes (numbers, end, e, whole, shown, became) = (
  numbers,
  (script_told receipts script numbers end e).0 ∙ ap (λ z. finished numbers (entries_of_receipts z)) whole.0,
)
