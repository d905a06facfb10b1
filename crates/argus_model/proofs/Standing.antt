-- Ancestors of what stands stand, and what a commit or an abort leaves standing.
use Rattle.std.proofs.Common.{Bool, List, None, Option, Some, ap, arith, false, refl, true, ℕ, ⊎_elim, ◌<◌, ◌≡◌, ◌≢◌}
use Rattle.std.proofs.Common.{◌⊎◌}
use Rattle.std.proofs.{lemmas.Bool.Decides.nat_tests, lemmas.Bool.{cases_Bool, cases_eq, eq-eqb, eqb-true, false≢true}}
use Rattle.argus_model.specs.Ancestors.{is_ancestor, is_under, parent}
use Rattle.argus_model.specs.Event.{Aborted, Accessed, Began, Committed, Origin, origin_parent}
use Rattle.argus_model.specs.History.{History, Opened, folded, next_action, ◌▹◌}
use Rattle.argus_model.specs.OwnerSteps.{AllStand, StandsAlone, owner_inherited, is_exactly, owner_by_steps}
use Rattle.argus_model.specs.OwnerSteps.{standing_child, stands, unless_lost}
use Rattle.argus_model.proofs.Ancestors.{ParentsAreOlder, ancestor_self, child_on_path, folded_next, parent_cases}
use Rattle.argus_model.proofs.Ancestors.{parent_older, under_below}

-- what the laws need of each step, but for what is read and written
abbrev pub Orderly : {V : Type 0} → History V → Type 0
Orderly (Opened n) = Unit {0}
Orderly (Began from ▹ older) = (stands older (origin_parent from) ≡ true) × Orderly older
Orderly (Committed s ▹ older) = StandsAlone older s × Orderly older
Orderly (Aborted zs ▹ older) = AllStand older zs × Orderly older
Orderly (Accessed a o v ▹ older) = StandsAlone older a × Orderly older

-- an owner that is exactly y is y
pub at_some : (o : Option ℕ) (y : ℕ) → is_exactly o y ≡ true → o ≡ Some y
at_some None y e = absurd (false≢true e)
at_some (Some x) y e = ap Some (eqb-true x y e)

-- the owner y is exactly y
pub some_at : (o : Option ℕ) (y : ℕ) → o ≡ Some y → is_exactly o y ≡ true
some_at o y e = rw e (eq-eqb y y refl)

-- after s hands up to p, an owner is p in the place of s, or another that it was before
pub handed_cases : (s p : ℕ) (o : Option ℕ) (x : ℕ) → owner_inherited s p o ≡ Some x
    → ((o ≡ Some s) × (x ≡ p)) ⊎ ((o ≡ Some x) × (x ≢ s))
handed_cases s p None x e = grind arith
handed_cases s p (Some y) x e = grind (arith, nat_tests, cases_eq y s)

-- after s hands up to p, what s answered for is p's
pub handed_from : (s p : ℕ) (o : Option ℕ) → o ≡ Some s → owner_inherited s p o ≡ Some p
handed_from s p o e = grind (arith, nat_tests)

-- after s hands up to p, what another answered for is still that one's
pub handed_stays : (s p : ℕ) (o : Option ℕ) (x : ℕ) → o ≡ Some x → x ≢ s → owner_inherited s p o ≡ Some x
handed_stays s p o x e ne = grind (arith, nat_tests)

-- an owner that is left was the owner before, and is not lost
pub kept_cases : (lost : ℕ → Bool) (o : Option ℕ) (x : ℕ) → unless_lost lost o ≡ Some x
    → (o ≡ Some x) × (lost x ≡ false)
kept_cases lost None x e = grind arith
kept_cases lost (Some y) x e = grind (arith, nat_tests, cases_Bool (lost y))

-- an owner that is not lost is left
pub kept_stays : (lost : ℕ → Bool) (o : Option ℕ) (x : ℕ) → o ≡ Some x → lost x ≡ false → unless_lost lost o ≡ Some x
kept_stays lost o x e n = grind arith

-- what began last is its own owner; every other owner stays
pub owner_cases : {V : Type 0} (h : History V) (from : Origin) (y : ℕ)
    → ((y ≡ next_action h) × (owner_by_steps (Began from ▹ h) y ≡ Some y))
    ⊎ ((y ≢ next_action h) × (owner_by_steps (Began from ▹ h) y ≡ owner_by_steps h y))
owner_cases h from y = grind (arith, nat_tests)

-- what has an owner has begun
pub owned_begun : {V : Type 0} (h : History V) (y x : ℕ) → owner_by_steps h y ≡ Some x → y < next_action h
owned_begun (Opened n) y x e = ⊎_elim (λ k. omega arith) (λ k. absurd (grind (arith, nat_tests))) (cases_eq y 0)
owned_begun (Began from ▹ h) y x e = grind (arith, nat_tests, owned_begun h y x, owner_cases h from y)
owned_begun (Committed s ▹ h) y x e =
    grind (arith, nat_tests, owned_begun h y s, owned_begun h y x, handed_cases s (parent h s) (owner_by_steps h y) x e)
owned_begun (Aborted z ▹ h) y x e = owned_begun h y x (kept_cases (is_under h z) (owner_by_steps h y) x e).0
owned_begun (Accessed a o v ▹ h) y x e = owned_begun h y x e

-- what has an owner, but for the base, has a number past the folded ones
pub owned_unfolded : {V : Type 0} (h : History V) (y x : ℕ) → y ≢ 0 → owner_by_steps h y ≡ Some x → folded h < y
owned_unfolded (Opened n) y x ne e = absurd (grind (arith, nat_tests))
owned_unfolded (Began from ▹ h) y x ne e =
    grind (arith, nat_tests, folded_next h, owned_unfolded h y x ne, owner_cases h from y)
owned_unfolded (Committed s ▹ h) y x ne e = grind (arith, nat_tests, owned_unfolded h y s ne, owned_unfolded h y x ne)
owned_unfolded (Aborted z ▹ h) y x ne e = owned_unfolded h y x ne (kept_cases (is_under h z) (owner_by_steps h y) x e).0
owned_unfolded (Accessed a o v ▹ h) y x ne e = owned_unfolded h y x ne e

-- what stands, but for the base, has a number past the folded ones
pub stands_unfolded : {V : Type 0} (h : History V) (y : ℕ) → y ≢ 0 → stands h y ≡ true → folded h < y
stands_unfolded h y ne e = owned_unfolded h y y ne (at_some (owner_by_steps h y) y e)

-- what stands has begun
pub stands_begun : {V : Type 0} (h : History V) (y : ℕ) → stands h y ≡ true → y < next_action h
stands_begun h y e = owned_begun h y y (at_some (owner_by_steps h y) y e)

-- in an orderly history parents are older
pub parents_are_older : {V : Type 0} (h : History V) → Orderly h → ParentsAreOlder h
parents_are_older (Opened n) w = tt
parents_are_older (Began from ▹ h) w = (stands_begun h (origin_parent from) w.0, parents_are_older h w.1)
parents_are_older (_ ▹ h) w = parents_are_older h w.1

-- a parent has begun
pub parent_begun : {V : Type 0} (h : History V) (y : ℕ) → ParentsAreOlder h → parent h y < next_action h
parent_begun (Opened n) y f = omega arith
parent_begun (Began from ▹ h) y f = grind (arith, nat_tests, parent_begun h y f.1, parent_cases h from y)
parent_begun (_ ▹ h) y f = parent_begun h y f

-- an owner has begun
pub owner_begun : {V : Type 0} (h : History V) (y x : ℕ) → ParentsAreOlder h → owner_by_steps h y ≡ Some x
    → x < next_action h
owner_begun (Opened n) y x f e = grind (arith, nat_tests, cases_eq y 0)
owner_begun (Began from ▹ h) y x f e = grind (arith, nat_tests, owner_begun h y x f.1, owner_cases h from y)
owner_begun (Committed s ▹ h) y x f e = grind (arith, nat_tests, parent_begun, owner_begun h y x f, handed_cases)
owner_begun (Aborted z ▹ h) y x f e = owner_begun h y x f (kept_cases (is_under h z) (owner_by_steps h y) x e).0
owner_begun (Accessed a o v ▹ h) y x f e = owner_begun h y x f e

-- a child that began in k and stands in h is found
pub child_found : {V : Type 0} (h k : History V) (x y : ℕ) → folded k < y → y < next_action k → parent k y ≡ x
    → stands h y ≡ true → standing_child h x k ≡ true
child_found h (Opened m) x y y0 l e n = absurd (omega arith)
child_found h (Began from ▹ k) x y y0 l e n = grind (arith, nat_tests, child_found h k x y y0, parent_cases k from y)
child_found h (_ ▹ k) x y y0 l e n = child_found h k x y y0 l e n

-- ancestors of what stands stand
abbrev pub StandsUpward : {V : Type 0} → History V → Type 0
StandsUpward h = (x y : ℕ) → stands h y ≡ true → is_ancestor h x y ≡ true → stands h x ≡ true

-- where no child of x stands, nothing below x does
pub alone : {V : Type 0} (h : History V) → ParentsAreOlder h → StandsUpward h → (x y : ℕ) → stands h y ≡ true
    → is_ancestor h x y ≡ true → standing_child h x h ≡ false → x ≡ y
alone h f up x y l a n =
    let b = stands_begun h y l in
    grind (arith, nat_tests, child_on_path h x y f, b, child_found h h x, stands_unfolded h, up, cases_eq x y)

-- the parent of what stands is older, and an ancestor of it
pub parent_is : {V : Type 0} (h : History V) → ParentsAreOlder h → (s : ℕ) → s ≢ 0 → stands h s ≡ true
    → (parent h s < s) × (is_ancestor h (parent h s) s ≡ true)
parent_is h f s s0 l = grind (arith, nat_tests, parent_older, stands_begun, ancestor_self)

-- what stands after a commit stood before it, and is not what committed
pub stands_commit : {V : Type 0} (h : History V) → ParentsAreOlder h → StandsUpward h → (s y : ℕ) → s ≢ 0
    → stands h s ≡ true → stands (Committed s ▹ h) y ≡ true → (stands h y ≡ true) × (y ≢ s)
stands_commit h f up s y s0 l e = grind (arith, nat_tests, parent_is, at_some, some_at, handed_cases)

-- what stands after an abort stood before it, and is not under those aborted
pub stands_abort : {V : Type 0} (h : History V) (z : List ℕ) (y : ℕ) → stands (Aborted z ▹ h) y ≡ true
    → (stands h y ≡ true) × (is_under h z y ≡ false)
stands_abort h z y e = grind (arith, nat_tests)

-- a begin leaves whether any other stands
pub stands_old : {V : Type 0} (h : History V) (from : Origin) (y : ℕ) → y ≢ next_action h
    → stands (Began from ▹ h) y ≡ stands h y
stands_old h from y ne = grind (arith, nat_tests)

-- what began last stands
pub stands_new : {V : Type 0} (h : History V) (from : Origin) (y : ℕ) → y ≡ next_action h
    → stands (Began from ▹ h) y ≡ true
stands_new h from y e = grind (arith, nat_tests)

-- in an orderly history ancestors of what stands stand
pub stands_upward : {V : Type 0} (h : History V) → Orderly h → StandsUpward h
stands_upward {V} (Opened n) w x y l a =
    grind (arith, nat_tests, at_some (owner_by_steps {V = V} (Opened n) y) y l, cases_eq y 0)
stands_upward (Began from ▹ h) w x y l a = grind (arith, nat_tests, stands_upward h w.1 x, stands_upward h w.1 x y)
stands_upward (Committed s ▹ h) w x y l a =
    let f = parents_are_older h w.1 in let up : StandsUpward h = stands_upward h w.1 in
    let k = stands_commit h f up s y w.0.not_base w.0.standing l in
    grind (arith, nat_tests, alone h f up s y, k, up x y, at_some, some_at, handed_stays, w.0.childless)
stands_upward (Aborted z ▹ h) w x y l a =
    let k = stands_abort h z y l in let below = under_below h z x y (parents_are_older h w.1) (stands_begun h y k.0) in
    grind (arith, nat_tests, k, below, stands_upward h w.1 x y, at_some, some_at, kept_stays)
stands_upward (Accessed b o v ▹ h) w x y l a = stands_upward h w.1 x y l a
