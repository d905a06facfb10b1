-- The owner by its plain definition is the owner by steps.
use Rattle.std.proofs.Common.{None, Option, Some, arith, refl, suc, true, zero, ℕ, ◌<◌, ◌≡◌, ◌≢◌}
use Rattle.std.proofs.{lemmas.Bool.{cases_Bool, cases_eq}, lemmas.Bool.Decides.nat_tests}
use Rattle.argus_model.specs.Ancestors.{is_ancestor, is_under, lineage, parent}
use Rattle.argus_model.specs.{WorkSteps.owner_passes, Event.{Aborted, Accessed, Began, Committed, origin_parent}}
use Rattle.argus_model.specs.History.{History, Opened, folded, next_action, ◌▹◌}
use Rattle.argus_model.specs.Owner.{counts_for, is_base, is_held_by, owner, owner_up}
use Rattle.argus_model.specs.OwnerSteps.{as_owner, is_exactly, owner_by_steps}
use Rattle.argus_model.specs.Status.{has_committed, is_begun, is_doomed}
use Rattle.argus_model.proofs.{Ancestors.{folded_next, lineage_cases, parent_cases, parent_older}, Live.is_begun_parts}
use Rattle.argus_model.proofs.{OwnerRules.{owner_gone, owner_passed, owner_self}, Serial.{base_stands, lineage-base}}
use Rattle.argus_model.proofs.Standing.{Orderly, at_some, handed_cases, kept_cases, owner_cases, parents_are_older}
use Rattle.argus_model.proofs.Standing.{stands_begun, stands_unfolded}

-- the parent of a begun subaction has a number past the folded ones
pub parent_unfolded : {V : Type 0} (h : History V) → Orderly h → (a : ℕ) → folded h < a → a < next_action h
    → parent h a ≢ 0 → folded h < parent h a
parent_unfolded (Opened m) w a l b n = absurd (omega arith)
parent_unfolded (Began from ▹ h) w a l b n =
    grind (arith, nat_tests, stands_unfolded h (origin_parent from), parent_unfolded h w.1 a l, parent_cases h from a)
parent_unfolded (_ ▹ h) w a l b n = parent_unfolded h w.1 a l b n

-- an owner other than the base has a number past the folded ones
pub owner_unfolded : {V : Type 0} (h : History V) → Orderly h → (a x : ℕ) → owner_by_steps h a ≡ Some x → x ≢ 0
    → folded h < x
owner_unfolded (Opened m) w a x e n = grind (arith, nat_tests, cases_eq a 0)
owner_unfolded (Began from ▹ h) w a x e n =
    grind (arith, nat_tests, folded_next h, owner_unfolded h w.1 a x, owner_cases h from a)
owner_unfolded (Committed s ▹ h) w a x e n =
    grind (arith, nat_tests, parent_unfolded, stands_unfolded, stands_begun, owner_unfolded h w.1 a x, handed_cases)
owner_unfolded (Aborted z ▹ h) w a x e n =
    owner_unfolded h w.1 a x (kept_cases (is_under h z) (owner_by_steps h a) x e).0 n
owner_unfolded (Accessed d o v ▹ h) w a x e n = owner_unfolded h w.1 a x e n

up_is : {V : Type 0} (h : History V) → Orderly h → (n a : ℕ) → a < n → (a ≢ 0 → folded h < a) → a < next_action h
    → owner_up h (lineage h a) ≡ as_owner (owner_by_steps h a)
up_is h w zero a l u b = absurd (omega arith)
up_is h w (suc n) a l u b =
    grind (
      arith,
      nat_tests,
      lineage-base h,
      at_some,
      base_stands h w,
      parent_older h a,
      parents_are_older h w,
      owner_gone h w a,
      up_is h w n,
      parent_unfolded h w a,
      owner_passed h w a,
      owner_self h w a,
      cases_Bool (has_committed h a),
      cases_Bool (is_doomed h a),
      cases_eq a 0,
    )

-- the owner of a begun action is its owner by steps
pub owner_is : {V : Type 0} (h : History V) → Orderly h → (a : ℕ) → is_begun h a ≡ true
    → owner h a ≡ as_owner (owner_by_steps h a)
owner_is h w a k = grind (arith, nat_tests, is_begun_parts h a k, up_is h w (suc a) a (omega arith))

-- the base is an ancestor of all
pub base_above : {V : Type 0} (h : History V) (y : ℕ) → is_ancestor h 0 y ≡ true
base_above (Opened n) y = grind (arith, nat_tests, cases_eq y 0)
base_above (Began from ▹ h) y =
    grind (arith, nat_tests, base_above h (origin_parent from), base_above h y, lineage_cases h from y)
base_above (_ ▹ h) y = base_above h y

-- what has this owner counts for y where the owner is an ancestor of y
pub counts_for_is : {V : Type 0} (h : History V) (y : ℕ) (q : Option ℕ)
    → counts_for h y (as_owner q) ≡ owner_passes (λ x. is_ancestor h x y) q
counts_for_is h y None = refl
counts_for_is h y (Some x) = grind (arith, nat_tests, base_above h y, cases_eq x 0)

-- what has this owner is there for good where the owner is an ancestor of the base
pub is_base_is : {V : Type 0} (h : History V) (q : Option ℕ)
    → is_base (as_owner q) ≡ owner_passes (λ x. is_ancestor h x 0) q
is_base_is h None = refl
is_base_is h (Some x) = grind (arith, nat_tests, base_above h 0, lineage-base h, cases_eq x 0)

-- what has this owner is held by x where x is the owner
pub is_held_by_is : (x : ℕ) (q : Option ℕ) → x ≢ 0 → is_held_by x (as_owner q) ≡ is_exactly q x
is_held_by_is x None n = refl
is_held_by_is x (Some y) n = grind (arith, nat_tests, cases_eq y 0)
