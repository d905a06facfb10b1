-- For whom an action's work counts, as time goes on.
use Rattle.std.proofs.Common.{Bool, List, None, Option, Some, ap, arith, cond, false, refl, sym, true, ℕ, ◌∙◌, ◌≡◌, ◌≢◌}
use Rattle.std.proofs.{lemmas.Bool.{false≢true, ne_eqb, cases_Bool, cases_eq}, lemmas.Bool.Decides.nat_tests}
use Rattle.std.specs.{List.IsDistinct, Prelude.{◌&&◌, ◌==◌}}
use Rattle.argus_model.specs.Ancestors.{is_ancestor, is_under, parent}
use Rattle.argus_model.specs.{History.{History, Opened, ◌▹◌}, Status.{has_committed, is_begun, is_doomed, is_live}}
use Rattle.argus_model.specs.{Event.{Aborted, Accessed, Began, Committed, Event}, Work.committed_topactions}
use Rattle.argus_model.specs.{Numbers.contains, Owner.{Base, Gone, Held, Owner, is_base, owner}}
use Rattle.argus_model.specs.OwnerSteps.{as_owner, owner_inherited, owner_by_steps, stands, unless_lost}
use Rattle.argus_model.proofs.{Ancestors.{parent_cases, parent_older}, Owner.{owner_is, parent_unfolded}}
use Rattle.argus_model.proofs.Numbers.{different}
use Rattle.argus_model.proofs.{Serial.base_stands, Standing.{stands_begun, stands_new, stands_old, stands_upward}}
use Rattle.argus_model.proofs.{Live.{is_begun_from, is_begun_parts, live_stands, stands_is_live}, Topactions.tops_over}
use Rattle.argus_model.proofs.OwnerRules.{committed_begun, committed_unfolded, owner_ancestor, owner_gone, owner_passed}
use Rattle.argus_model.proofs.Standing.{owned_begun, owner_cases, parent_is, parents_are_older, some_at, stands_abort}
use Rattle.argus_model.proofs.Standing.{Orderly, at_some, handed_cases, handed_stays, kept_cases, kept_stays}

-- who answers for an action answers for itself, too
pub owner_stands : {V : Type 0} (h : History V) → Orderly h → (a x : ℕ) → owner_by_steps h a ≡ Some x
    → stands h x ≡ true
owner_stands {V} (Opened n) w a x e = grind (arith, nat_tests, some_at, cases_eq a 0)
owner_stands (Began from ▹ h) w a x e =
    grind (arith, nat_tests, stands_new, owner_stands h w.1 a x, stands_begun, stands_old, owner_cases)
owner_stands (Committed s ▹ h) w a x e =
    let f = parents_are_older h w.1 in let up = stands_upward h w.1 in let ih = owner_stands h w.1 a x in
    let k = handed_cases s (parent h s) (owner_by_steps h a) x e in
    grind (arith, nat_tests, f, parent_is h, some_at, handed_stays, at_some, up, ih, k)
owner_stands (Aborted z ▹ h) w a x e =
    grind (arith, nat_tests, kept_cases, owner_stands h w.1 a x, some_at, kept_stays, at_some)
owner_stands (Accessed b o v ▹ h) w a x e = owner_stands h w.1 a x e

abbrev is_gone : Owner → Bool
is_gone Gone = true
is_gone _ = false

abbrev held_number : Owner → ℕ
held_number (Held x) = x
held_number _ = 0

-- what is called gone has no owner by steps
pub none_of : (q : Option ℕ) → as_owner q ≡ Gone → q ≡ None
none_of None e = refl
none_of (Some x) e = grind (arith, nat_tests)

-- what is called held by x has the owner x by steps
pub some_of : (q : Option ℕ) (x : ℕ) → as_owner q ≡ Held x → q ≡ Some x
some_of None x e = absurd (false≢true (sym (ap is_gone e)))
some_of (Some y) x e = grind (arith, nat_tests, held_number, cases_eq y 0)

-- what is called there for good has the base as owner by steps
pub base_of : (q : Option ℕ) → as_owner q ≡ Base → q ≡ Some 0
base_of None e = absurd (false≢true (ap is_base e))
base_of (Some y) e = grind (arith, nat_tests, cases_eq y 0)

-- an owner other than the base is called a holder
pub as_held : (x : ℕ) → x ≢ 0 → as_owner (Some x) ≡ Held x
as_held x n = ap (λ b. cond b Base (Held x)) (ne_eqb x 0 n)

-- what is begun stays begun
pub begun_stays : {V : Type 0} (h : History V) (e : Event V) (a : ℕ) → is_begun h a ≡ true → is_begun (e ▹ h) a ≡ true
begun_stays h (Began from) a k = grind (arith, nat_tests, is_begun_parts h a k, is_begun_from (Began from ▹ h) a)
begun_stays h _ a k = k

-- the base stands under none of those that are aborted
pub base_spared : {V : Type 0} (h : History V) (z : List ℕ) → Orderly (Aborted z ▹ h) → is_under h z 0 ≡ false
base_spared h z w = (stands_abort h z 0 (base_stands (Aborted z ▹ h) w)).1

-- a begun action that has no owner never gets one again
pub none_stays : {V : Type 0} (h : History V) (e : Event V) (a : ℕ) → is_begun h a ≡ true → owner_by_steps h a ≡ None
    → owner_by_steps (e ▹ h) a ≡ None
none_stays h (Began from) a k n = grind (arith, nat_tests, is_begun_parts h a k, owner_cases h from a)
none_stays h (Committed s) a k n = ap (owner_inherited s (parent h s)) n
none_stays h (Aborted z) a k n = ap (unless_lost (is_under h z)) n
none_stays h (Accessed b o v) a k n = n

-- what the base owns stays with the base
pub base_stays : {V : Type 0} (h : History V) (e : Event V) → Orderly (e ▹ h) → (a : ℕ) → owner_by_steps h a ≡ Some 0
    → owner_by_steps (e ▹ h) a ≡ Some 0
base_stays h (Began from) w a b = grind (arith, nat_tests, owned_begun h a 0 b, owner_cases h from a)
base_stays h (Committed s) w a b = handed_stays s (parent h s) (owner_by_steps h a) 0 b (λ q. w.0.not_base (sym q))
base_stays h (Aborted z) w a b = kept_stays (is_under h z) (owner_by_steps h a) 0 b (base_spared h z w)
base_stays h (Accessed d o v) w a b = b

-- an action that is over is never live again
pub over_stays : {V : Type 0} (h : History V) (e : Event V) → Orderly (e ▹ h) → (a : ℕ) → is_begun h a ≡ true
    → is_live h a ≡ false → is_live (e ▹ h) a ≡ false
over_stays h e w a k n = grind (arith, nat_tests)

-- what a doomed action did is gone
pub owner_when_doomed : {V : Type 0} (h : History V) → Orderly h → (a : ℕ) → is_begun h a ≡ true → is_doomed h a ≡ true
    → owner h a ≡ Gone
owner_when_doomed h w a k d = grind (arith, nat_tests, is_begun_parts h a k, owner_is h w a k, owner_gone h w a)

-- a live action answers for itself
pub owner_when_live : {V : Type 0} (h : History V) → Orderly h → (a : ℕ) → is_live h a ≡ true → owner h a ≡ Held a
owner_when_live h w a l =
    grind (arith, nat_tests, live_stands h w a l, owner_is h w a, at_some (owner_by_steps h a) a, as_held a)

-- for a committed subaction answers who answers for its parent
pub owner_when_committed : {V : Type 0} (h : History V) → Orderly h → (a : ℕ) → is_begun h a ≡ true
    → has_committed h a ≡ true → parent h a ≢ 0 → owner h a ≡ owner h (parent h a)
owner_when_committed h w a k c n =
    let q = is_begun_parts h a k in let p = parent_older h a (parents_are_older h w) in
    grind (arith, nat_tests, q, p, owner_is h w, owner_passed h w a c, is_begun_from h, parent_unfolded h w a)

-- what a committed topaction did is there for good
pub owner_when_top : {V : Type 0} (h : History V) → Orderly h → (a : ℕ) → is_begun h a ≡ true → has_committed h a ≡ true
    → parent h a ≡ 0 → owner h a ≡ Base
owner_when_top h w a k c e = grind (arith, nat_tests, owner_is, owner_passed, at_some, base_stands)

-- who answers for an action is live, and an ancestor of it
pub held_by_live : {V : Type 0} (h : History V) → Orderly h → (a x : ℕ) → is_begun h a ≡ true → owner h a ≡ Held x
    → (is_live h x ≡ true) × (is_ancestor h x a ≡ true)
held_by_live h w a x k e =
    let o = owner_is h w a k in let s = owner_stands h w a x in let above = owner_ancestor h w a x in
    grind (arith, nat_tests, some_of, o, stands_is_live h w x, s, above, cases_eq x 0)

-- the list of committed topactions has who has committed and has the base as parent, and no other
pub tops_are : {V : Type 0} (h : History V) → Orderly h → (t : ℕ)
    → contains (committed_topactions h) t ≡ (has_committed h t && parent h t == 0)
tops_are (Opened n) w t = refl
tops_are (Began from ▹ h) w t = grind (arith, nat_tests, tops_are h w.1 t, committed_begun, parent_cases)
tops_are (Committed s ▹ h) w t = grind (arith, nat_tests, tops_are h w.1 t, cases_eq t s, cases_Bool (parent h s == 0))
tops_are (_ ▹ h) w t = tops_are h w.1 t

-- what those on the list of committed topactions did is there for good
pub tops_stay : {V : Type 0} (h : History V) → Orderly h → (t : ℕ) → contains (committed_topactions h) t ≡ true
    → owner h t ≡ Base
tops_stay h w t m =
    grind (arith, nat_tests, tops_are, committed_begun, owner_when_top, is_begun_from, committed_unfolded)

-- what is gone stays gone
pub gone_stays : {V : Type 0} (h : History V) (e : Event V) → Orderly h → Orderly (e ▹ h) → (a : ℕ)
    → is_begun h a ≡ true → owner h a ≡ Gone → owner (e ▹ h) a ≡ Gone
gone_stays h e w u a k g =
    owner_is (e ▹ h) u a (begun_stays h e a k)
    ∙ ap as_owner (none_stays h e a k (none_of (owner_by_steps h a) (sym (owner_is h w a k) ∙ g)))

-- what is there for good stays there
pub good_stays : {V : Type 0} (h : History V) (e : Event V) → Orderly h → Orderly (e ▹ h) → (a : ℕ)
    → is_begun h a ≡ true → owner h a ≡ Base → owner (e ▹ h) a ≡ Base
good_stays h e w u a k g =
    owner_is (e ▹ h) u a (begun_stays h e a k)
    ∙ ap as_owner (base_stays h e u a (base_of (owner_by_steps h a) (sym (owner_is h w a k) ∙ g)))

-- no committed topaction is listed twice
pub tops-IsDistinct : {V : Type 0} (h : History V) → Orderly h → IsDistinct ◌==◌ (committed_topactions h)
unfolding IsDistinct
tops-IsDistinct (Opened n) w = tt
tops-IsDistinct (Committed s ▹ h) w =
    grind (arith, nat_tests, tops-IsDistinct h w.1, different s, tops_over h w.1 s, cases_Bool (parent h s == 0))
tops-IsDistinct (_ ▹ h) w = tops-IsDistinct h w.1
