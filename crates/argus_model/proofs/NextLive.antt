-- Which actions are live, and the owners, after one more event.
use Rattle.std.proofs.{lemmas.Bool.Decides.nat_tests, lemmas.Bool.{cases_Bool, cases_eq}, Common.{refl, sym}}
use Rattle.std.proofs.Common.{true, ℕ, ⊎_elim, ◌∙◌, ◌∷◌, ◌≡◌, ◌≢◌, Bool, List, None, Option, Some, ap, arith, false}
use Rattle.std.specs.Prelude.{not, ◌&&◌, ◌==◌, ◌||◌}
use Rattle.argus_model.specs.{Ancestors.{is_under, lineage, parent}, Owner.{Held, owner, passed_up, unless_gone}}
use Rattle.argus_model.specs.{History.{History, next_action, ◌▹◌}, Status.{is_begun, is_live}}
use Rattle.argus_model.specs.Event.{Aborted, Accessed, Began, Committed, Origin, origin_parent}
use Rattle.argus_model.specs.OwnerSteps.{as_owner, owner_inherited, owner_by_steps, unless_lost}
use Rattle.argus_model.proofs.{Ancestors.{folded_next, lineage_cases, next_pos}, Owner.owner_is}
use Rattle.argus_model.proofs.{Live.{is_begun_from, is_begun_parts, stands_is_live}, Standing.owner_cases}
use Rattle.argus_model.proofs.Counting.{as_held, base_spared, begun_stays}
use Rattle.argus_model.proofs.Standing.{stands_new, stands_old, Orderly, at_some, handed_from, handed_stays}

-- the base is not called live
pub zero_not_live : {V : Type 0} (h : History V) → is_live h 0 ≡ false
zero_not_live h = grind (arith, nat_tests)

-- after a begin are live the new action and who was live
pub live_after_begin : {V : Type 0} (h : History V) (from : Origin) → Orderly (Began from ▹ h) → (x : ℕ)
    → is_live (Began from ▹ h) x ≡ ((x == next_action h) || is_live h x)
live_after_begin h from w x =
    let then = stands_is_live (Began from ▹ h) w x in let now = stands_is_live h w.1 x in let p = next_pos h in
    grind (arith, nat_tests, zero_not_live, p, then, now, stands_new h from x, stands_old h from x, cases_eq x 0)

-- after a commit are live all who were, but for the action itself
pub live_after_commit : {V : Type 0} (h : History V) (s : ℕ) → Orderly (Committed s ▹ h) → (x : ℕ)
    → is_live (Committed s ▹ h) x ≡ (is_live h x && not (x == s))
live_after_commit h s w = grind (arith, nat_tests)

-- after an abort are live all who were, but for those under the aborted ones
pub live_after_abort : {V : Type 0} (h : History V) (z : List ℕ) → Orderly (Aborted z ▹ h) → (x : ℕ)
    → is_live (Aborted z ▹ h) x ≡ (is_live h x && not (is_under h z x))
live_after_abort h z w x = grind (arith, nat_tests)

-- a begin leaves the owner of each begun action
pub owner_after_begin : {V : Type 0} (h : History V) (from : Origin) → Orderly (Began from ▹ h) → (x : ℕ)
    → is_begun h x ≡ true → owner (Began from ▹ h) x ≡ owner h x
owner_after_begin h from w x k =
    let now = owner_is (Began from ▹ h) w x in let old = owner_is h w.1 x k in let q = is_begun_parts h x k in
    grind (arith, nat_tests, q, now, begun_stays h (Began from) x k, owner_cases h from x, old)

-- an access leaves the owner of each begun action
pub owner_after_access : {V : Type 0} (h : History V) (a o : ℕ) (v : V) → Orderly (Accessed a o v ▹ h) → (x : ℕ)
    → is_begun h x ≡ true → owner (Accessed a o v ▹ h) x ≡ owner h x
owner_after_access h a o v w x k = owner_is (Accessed a o v ▹ h) w x k ∙ sym (owner_is h w.1 x k)

handed_is : (s p : ℕ) → s ≢ 0 → (q : Option ℕ) → as_owner (owner_inherited s p q) ≡ passed_up s p (as_owner q)
handed_is s p s0 None = refl
handed_is s p s0 (Some x) = grind (arith, nat_tests, handed_from, as_held x, handed_stays, cases_eq x 0, cases_eq x s)

-- a commit passes what the action answers for to its parent
pub owner_after_commit : {V : Type 0} (h : History V) (s : ℕ) → Orderly (Committed s ▹ h) → (x : ℕ)
    → is_begun h x ≡ true → owner (Committed s ▹ h) x ≡ passed_up s (parent h s) (owner h x)
owner_after_commit h s w x k =
    owner_is (Committed s ▹ h) w x k ∙ handed_is s (parent h s) w.0.not_base (owner_by_steps h x)
    ∙ ap (passed_up s (parent h s)) (sym (owner_is h w.1 x k))

lost_is : (lost : ℕ → Bool) → lost 0 ≡ false → (q : Option ℕ)
    → as_owner (unless_lost lost q) ≡ unless_gone lost (as_owner q)
lost_is lost n None = refl
lost_is lost n (Some x) = grind (arith, nat_tests, as_held x, cases_Bool (lost x), cases_eq x 0)

-- after an abort what was held by those under the aborted ones is gone
pub owner_after_abort : {V : Type 0} (h : History V) (z : List ℕ) → Orderly (Aborted z ▹ h) → (x : ℕ)
    → is_begun h x ≡ true → owner (Aborted z ▹ h) x ≡ unless_gone (is_under h z) (owner h x)
owner_after_abort h z w x k =
    owner_is (Aborted z ▹ h) w x k ∙ lost_is (is_under h z) (base_spared h z w) (owner_by_steps h x)
    ∙ ap (unless_gone (is_under h z)) (sym (owner_is h w.1 x k))

-- a new action answers for itself
pub new_owner : {V : Type 0} (h : History V) (from : Origin) → Orderly (Began from ▹ h)
    → owner (Began from ▹ h) (next_action h) ≡ Held (next_action h)
new_owner h from w =
    let f = folded_next h in
    let n = next_action h in
    owner_is (Began from ▹ h) w n (is_begun_from (Began from ▹ h) n f (omega arith))
    ∙ ap as_owner (at_some (owner_by_steps (Began from ▹ h) n) n (stands_new h from n refl))
    ∙ as_held n (λ e. omega arith)

-- a new action's lineage is itself, then its parent's
pub new_lineage : {V : Type 0} (h : History V) (from : Origin)
    → lineage (Began from ▹ h) (next_action h) ≡ next_action h ∷ lineage h (origin_parent from)
new_lineage h from = ⊎_elim (λ k. k.1) (λ k. absurd (k.0 refl)) (lineage_cases h from (next_action h))
