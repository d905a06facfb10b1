-- Doomed actions have no owner, live ones themselves, and committed ones their parent's.
use Rattle.std.proofs.Common.{Bool, None, Option, Some, ap, arith, false, refl, sym, true, ℕ, ⊎_elim, ◌<◌, ◌∙◌, ◌≡◌}
use Rattle.std.proofs.{Common.◌≢◌, lemmas.Bool.Decides.nat_tests, lemmas.Bool.{cases_Bool, cases_eq, false≢true}}
use Rattle.std.specs.Prelude.{◌||◌}
use Rattle.argus_model.specs.{Ancestors.{is_ancestor, is_under, parent}, Status.{has_committed, is_doomed, was_aborted}}
use Rattle.argus_model.specs.Event.{Aborted, Accessed, Began, Committed}
use Rattle.argus_model.specs.History.{History, Opened, folded, next_action, ◌▹◌}
use Rattle.argus_model.specs.OwnerSteps.{owner_inherited, owner_by_steps, stands, unless_lost}
use Rattle.argus_model.proofs.Ancestors.{ancestor_le, ancestor_old, ancestor_old_is, ancestor_trans, lineage_cases}
use Rattle.argus_model.proofs.{Ancestors.parent_cases, Exclusion.above_parent, Numbers.any_agree, Standing.stands_old}
use Rattle.argus_model.proofs.Standing.{parents_are_older, stands_abort, stands_begun, stands_commit, stands_unfolded}
use Rattle.argus_model.proofs.Standing.{kept_cases, owned_begun, owner_begun, owner_cases, parent_begun, parent_is}
use Rattle.argus_model.proofs.Standing.{stands_upward, Orderly, at_some, handed_cases, handed_from, handed_stays}

abbrev gone : Option ℕ → Bool
gone None = true
gone (Some x) = false

-- an owner is an ancestor of what it answers for
pub owner_ancestor : {V : Type 0} (h : History V) → Orderly h → (a x : ℕ) → owner_by_steps h a ≡ Some x
    → is_ancestor h x a ≡ true
owner_ancestor (Opened n) w a x e = grind (arith, nat_tests, cases_eq a 0)
owner_ancestor (Began from ▹ h) w a x e = grind (arith, nat_tests, owner_ancestor h w.1 a x)
owner_ancestor (Committed s ▹ h) w a x e =
    let f = parents_are_older h w.1 in let k = handed_cases s (parent h s) (owner_by_steps h a) x e in
    grind (arith, nat_tests, ancestor_trans h, f, owned_begun h a, parent_is h, owner_ancestor h w.1 a, k)
owner_ancestor (Aborted z ▹ h) w a x e = owner_ancestor h w.1 a x (kept_cases (is_under h z) (owner_by_steps h a) x e).0
owner_ancestor (Accessed b o v ▹ h) w a x e = owner_ancestor h w.1 a x e

-- a live ancestor is one of the owner
pub ancestor_owner : {V : Type 0} (h : History V) → Orderly h → (a x z : ℕ) → owner_by_steps h a ≡ Some x
    → stands h z ≡ true → is_ancestor h z a ≡ true → is_ancestor h z x ≡ true
ancestor_owner (Opened n) w a x z e l m =
    ⊎_elim (λ k. grind (arith, nat_tests)) (λ k. absurd (grind (arith, nat_tests))) (cases_eq a 0)
ancestor_owner (Began from ▹ h) w a x z e l m =
    let f = parents_are_older h w.1 in let ih = ancestor_owner h w.1 a x z in let o = owner_cases h from in
    let b = owned_begun h a x in let le = ancestor_le h z a in let c = owner_begun h a x in
    let old = ancestor_old h from z x in let st = stands_old h from z in
    grind (arith, nat_tests, ancestor_old_is, b, le, f, c, o, old, ih, st)
ancestor_owner (Committed s ▹ h) w a x z e l m =
    let f = parents_are_older h w.1 in let k = handed_cases s (parent h s) (owner_by_steps h a) x e in
    let q = stands_commit h f (stands_upward h w.1) s z w.0.not_base w.0.standing l in
    grind (arith, nat_tests, f, q, above_parent h, ancestor_owner h w.1 a s z, ancestor_owner h w.1 a x z, k)
ancestor_owner (Aborted y ▹ h) w a x z e l m =
    ancestor_owner h w.1 a x z (kept_cases (is_under h y) (owner_by_steps h a) x e).0 (stands_abort h y z l).0 m
ancestor_owner (Accessed b o v ▹ h) w a x z e l m = ancestor_owner h w.1 a x z e l m

aborted_agree : {V : Type 0} (t u : ℕ → Bool) (h : History V) → Orderly h → ((z : ℕ) → z < next_action h → t z ≡ u z)
    → was_aborted t h ≡ was_aborted u h
aborted_agree t u (Opened n) w same = refl
aborted_agree t u (Began from ▹ h) w same = aborted_agree t u h w.1 (λ z l. same z (omega arith))
aborted_agree t u (Aborted zs ▹ h) w same =
    grind (arith, nat_tests, any_agree t u zs, stands_begun h, aborted_agree t u h w.1 same)
aborted_agree t u (_ ▹ h) w same = aborted_agree t u h w.1 same

gone-handed : (s p : ℕ) (o : Option ℕ) → gone (owner_inherited s p o) ≡ gone o
gone-handed s p None = refl
gone-handed s p (Some x) =
    grind (arith, nat_tests, gone, handed_from s p (Some x), handed_stays s p (Some x) x refl, cases_eq x s)

gone-kept : (lost : ℕ → Bool) (o : Option ℕ) (b : Bool) → ((x : ℕ) → o ≡ Some x → b ≡ lost x)
    → (b || gone o) ≡ gone (unless_lost lost o)
gone-kept lost None true same = refl
gone-kept lost None false same = refl
gone-kept lost (Some x) b same = grind (arith, nat_tests, gone, cases_Bool (lost x))

-- what is doomed has no owner, and nothing else
doomed_gone : {V : Type 0} (h : History V) → Orderly h → (a : ℕ) → (a ≢ 0 → folded h < a) → a < next_action h
    → is_doomed h a ≡ gone (owner_by_steps h a)
doomed_gone (Opened n) w a u l = grind (arith, nat_tests)
doomed_gone (Began from ▹ h) w a u l =
    grind (
      arith,
      nat_tests,
      aborted_agree,
      doomed_gone h w.1,
      stands_unfolded,
      stands_begun,
      at_some,
      doomed_gone h w.1 a u,
      lineage_cases,
    )
doomed_gone (Committed s ▹ h) w a u l = doomed_gone h w.1 a u l ∙ sym (gone-handed s (parent h s) (owner_by_steps h a))
doomed_gone (Aborted zs ▹ h) w a u l =
    let up = ancestor_owner h w.1 a in let trans = ancestor_trans h in let f = parents_are_older h w.1 in
    grind (arith, nat_tests, doomed_gone h w.1 a u l, gone-kept, any_agree, up, trans, f, owner_ancestor h w.1 a)
doomed_gone (Accessed b o v ▹ h) w a u l = doomed_gone h w.1 a u l

-- what has not committed has no owner but itself
pub moved : {V : Type 0} (h : History V) → Orderly h → (a x : ℕ) → owner_by_steps h a ≡ Some x
    → has_committed h a ≡ false → x ≡ a
moved (Opened m) w a x e n = grind (arith, nat_tests, cases_eq a 0)
moved (Began from ▹ h) w a x e n = grind (arith, nat_tests, moved h w.1 a x, owner_cases h from a)
moved (Committed s ▹ h) w a x e n =
    grind (arith, nat_tests, moved h w.1 a s, moved h w.1 a x, handed_cases s (parent h s) (owner_by_steps h a) x e)
moved (Aborted z ▹ h) w a x e n = moved h w.1 a x (kept_cases (is_under h z) (owner_by_steps h a) x e).0 n
moved (Accessed b o v ▹ h) w a x e n = moved h w.1 a x e n

-- who has committed is an action that has begun
pub committed_begun : {V : Type 0} (h : History V) → Orderly h → (a : ℕ) → has_committed h a ≡ true
    → (0 < a) × (a < next_action h)
committed_begun (Opened n) w a m = absurd (false≢true m)
committed_begun (Began from ▹ h) w a m = let k = committed_begun h w.1 a m in (k.0, omega (arith, k.1))
committed_begun (Committed s ▹ h) w a m =
    grind (arith, nat_tests, stands_begun h s w.0.standing, committed_begun h w.1 a)
committed_begun (_ ▹ h) w a m = committed_begun h w.1 a m

-- who has committed has a number past the folded ones
pub committed_unfolded : {V : Type 0} (h : History V) → Orderly h → (a : ℕ) → has_committed h a ≡ true → folded h < a
committed_unfolded (Opened n) w a m = absurd (false≢true m)
committed_unfolded (Committed s ▹ h) w a m =
    grind (arith, nat_tests, stands_unfolded h s w.0.not_base w.0.standing, committed_unfolded h w.1 a)
committed_unfolded (_ ▹ h) w a m = committed_unfolded h w.1 a m

-- what has committed has its parent's owner
pub owner_passed : {V : Type 0} (h : History V) → Orderly h → (a : ℕ) → has_committed h a ≡ true
    → owner_by_steps h a ≡ owner_by_steps h (parent h a)
owner_passed (Opened n) w a m = absurd (false≢true m)
owner_passed (Began from ▹ h) w a m =
    let c = committed_begun h w.1 a m in let b = parent_begun h a (parents_are_older h w.1) in
    grind (arith, nat_tests, c, b, owner_passed h w.1 a m, owner_cases h from, parent_cases h from a)
owner_passed (Committed s ▹ h) w a m =
    let i = parent_is h (parents_are_older h w.1) s w.0.not_base w.0.standing in let up = stands_upward h w.1 in
    grind (arith, nat_tests, i, at_some, up, handed_from, handed_stays, owner_passed h w.1 a)
owner_passed (Aborted z ▹ h) w a m = ap (unless_lost (is_under h z)) (owner_passed h w.1 a m)
owner_passed (Accessed b o v ▹ h) w a m = owner_passed h w.1 a m

-- a doomed action has no owner
pub owner_gone : {V : Type 0} (h : History V) → Orderly h → (a : ℕ) → folded h < a → a < next_action h
    → is_doomed h a ≡ true → owner_by_steps h a ≡ None
owner_gone h w a u l d = grind (arith, nat_tests, doomed_gone)

-- an action that is neither doomed nor committed has itself as owner
pub owner_self : {V : Type 0} (h : History V) → Orderly h → (a : ℕ) → folded h < a → a < next_action h
    → is_doomed h a ≡ false → has_committed h a ≡ false → owner_by_steps h a ≡ Some a
owner_self h w a u l d n = grind (arith, nat_tests, doomed_gone, moved)

-- what stands has begun, and is neither committed nor doomed
pub stands_plain : {V : Type 0} (h : History V) → Orderly h → (a : ℕ) → stands h a ≡ true
    → (a < next_action h) × (has_committed h a ≡ false) × (is_doomed h a ≡ false)
stands_plain h w a l =
    let c = committed_begun h w a in let i = parent_is h (parents_are_older h w) a in let up = stands_upward h w in
    let d = doomed_gone h w a in let b = stands_begun h a l in let u = stands_unfolded h a in
    grind (arith, nat_tests, at_some, b, c, i, up, owner_passed h w a, d, u, gone, cases_Bool (has_committed h a))
