-- How the holders change by one more event, and that the lock rules depend only on them.
use Rattle.std.proofs.Common.{Bool, List, None, Option, Some, arith, false, refl, true, ℕ, ◌∙◌, ◌≡◌, ◌≢◌}
use Rattle.std.proofs.{lemmas.Bool.{cases_eq, false≢true}, lemmas.Bool.Decides.nat_tests}
use Rattle.std.specs.Prelude.{not, ◌&&◌, ◌==◌, ◌||◌}
use Rattle.argus_model.specs.Ancestors.{is_ancestor, is_under, parent}
use Rattle.argus_model.specs.{History.{History, Opened, ◌▹◌}, HolderSteps.{has_used, holds, may_by_steps, used_by}}
use Rattle.argus_model.specs.Event.{Aborted, Accessed, Began, Committed, Origin}
use Rattle.argus_model.specs.OwnerSteps.{owner_inherited, is_exactly, owner_by_steps, stands, unless_lost}
use Rattle.argus_model.proofs.Exclusion.{Guarded, exclusion, has_used_begun, has_used_cases, has_used_more}
use Rattle.argus_model.proofs.Exclusion.{has_used_now, may_from, may_tells}
use Rattle.argus_model.proofs.Standing.{Orderly, at_some, handed_from, handed_stays, owner_cases, some_at}

at_handed_parent : (s p : ℕ) (q : Option ℕ) → p ≢ s
    → is_exactly (owner_inherited s p q) p ≡ (is_exactly q s || is_exactly q p)
at_handed_parent s p None ne = refl
at_handed_parent s p (Some y) ne =
    grind (arith, nat_tests, handed_from s p (Some y), handed_stays s p (Some y) y refl, cases_eq y s)

at_handed_other : (s p x : ℕ) (q : Option ℕ) → x ≢ s → x ≢ p → is_exactly (owner_inherited s p q) x ≡ is_exactly q x
at_handed_other s p x None ns np = refl
at_handed_other s p x (Some y) ns np =
    grind (arith, nat_tests, handed_from s p (Some y), handed_stays s p (Some y) y refl, cases_eq y s)

at_kept : (lost : ℕ → Bool) (x : ℕ) (q : Option ℕ)
    → is_exactly (unless_lost lost q) x ≡ (is_exactly q x && not (lost x))
at_kept lost x None = refl
at_kept lost x (Some y) = grind (arith, nat_tests, cases_eq y x)

module _ {V : Type 0} (writes : V → Bool) where
  -- tests that agree on all who have an access to the object give the same
  pub used_by_agree : (t u : ℕ → Bool) (o : ℕ) (all : Bool) (k : History V)
      → ((b : ℕ) → has_used writes k b o all ≡ true → t b ≡ u b) → used_by writes t o all k ≡ used_by writes u o all k
  used_by_agree t u o all (Opened n) same = refl
  used_by_agree t u o all (Accessed b o' v ▹ k) same =
      grind (arith, nat_tests, used_by_agree t u o all k, has_used_more, has_used_now)
  used_by_agree t u o all (_ ▹ k) same = used_by_agree t u o all k same

  used_by_or : (t u : ℕ → Bool) (o : ℕ) (all : Bool) (k : History V)
      → used_by writes (λ b. t b || u b) o all k ≡ (used_by writes t o all k || used_by writes u o all k)
  used_by_or t u o all (Opened n) = refl
  used_by_or t u o all (Accessed b o' v ▹ k) = grind (arith, nat_tests, used_by_or t u o all k)
  used_by_or t u o all (_ ▹ k) = used_by_or t u o all k

  used_by_and : (t : ℕ → Bool) (c : Bool) (o : ℕ) (all : Bool) (k : History V)
      → used_by writes (λ b. t b && c) o all k ≡ (used_by writes t o all k && c)
  used_by_and t c o all (Opened n) = refl
  used_by_and t c o all (Accessed b o' v ▹ k) = grind (arith, nat_tests, used_by_and t c o all k)
  used_by_and t c o all (_ ▹ k) = used_by_and t c o all k

  -- a begin leaves the holders of each object
  pub holds_begin : (h : History V) (from : Origin) (o : ℕ) (all : Bool) (x : ℕ) → Orderly h
      → holds writes (Began from ▹ h) o all x ≡ holds writes h o all x
  holds_begin h from o all x w = grind (arith, nat_tests, used_by_agree, has_used_begun writes h w, owner_cases h from)

  -- an access makes its action a holder of its object, and changes no other holder
  pub holds_access : (h : History V) (a o' : ℕ) (v : V) (o : ℕ) (all : Bool) (x : ℕ) → stands h a ≡ true
      → holds writes (Accessed a o' v ▹ h) o all x
      ≡ (((o' == o && (all || writes v)) && (a == x)) || holds writes h o all x)
  holds_access h a o' v o all x l = grind (arith, nat_tests, at_some (owner_by_steps h a) a l)

  -- after a commit the parent holds what it held or the action held
  pub holds_commit_parent : (h : History V) (s o : ℕ) (all : Bool) → parent h s ≢ s
      → holds writes (Committed s ▹ h) o all (parent h s)
      ≡ (holds writes h o all s || holds writes h o all (parent h s))
  holds_commit_parent h s o all ne =
      let p = parent h s in
      used_by_agree (λ b. is_exactly (owner_inherited s p (owner_by_steps h b)) p)
      (λ b. is_exactly (owner_by_steps h b) s || is_exactly (owner_by_steps h b) p) o all h
      (λ b u. at_handed_parent s p (owner_by_steps h b) ne)
      ∙ used_by_or (λ b. is_exactly (owner_by_steps h b) s) (λ b. is_exactly (owner_by_steps h b) p) o all h

  -- a commit leaves all holders but the action and its parent
  pub holds_commit_other : (h : History V) (s o : ℕ) (all : Bool) (x : ℕ) → x ≢ s → x ≢ parent h s
      → holds writes (Committed s ▹ h) o all x ≡ holds writes h o all x
  holds_commit_other h s o all x ns np = grind (arith, nat_tests, used_by_agree, at_handed_other s (parent h s) x)

  -- after an abort hold those who held and don't stand under those aborted
  pub holds_abort : (h : History V) (z : List ℕ) (o : ℕ) (all : Bool) (x : ℕ)
      → holds writes (Aborted z ▹ h) o all x ≡ (holds writes h o all x && not (is_under h z x))
  holds_abort h z o all x =
      used_by_agree (λ b. is_exactly (unless_lost (is_under h z) (owner_by_steps h b)) x)
      (λ b. is_exactly (owner_by_steps h b) x && not (is_under h z x)) o all h
      (λ b u. at_kept (is_under h z) x (owner_by_steps h b))
      ∙ used_by_and (λ b. is_exactly (owner_by_steps h b) x) (not (is_under h z x)) o all h

  -- where a user of the object passes the test, here is one
  pub used_by_found : (t : ℕ → Bool) (o : ℕ) (all : Bool) (k : History V) → used_by writes t o all k ≡ true
      → (b : ℕ) × (has_used writes k b o all ≡ true) × (t b ≡ true)
  used_by_found t o all (Opened n) m = absurd (false≢true m)
  used_by_found t o all (Accessed b o' v ▹ k) m =
      grind (
        arith,
        nat_tests,
        has_used_now writes k b o' v o all,
        used_by_found t o all k,
        has_used_more writes k b o' v,
      )
  used_by_found t o all (_ ▹ k) m = used_by_found t o all k m

  -- one user of the object that passes the test is enough
  pub used_by_from : (t : ℕ → Bool) (o : ℕ) (all : Bool) (k : History V) (b : ℕ) → has_used writes k b o all ≡ true
      → t b ≡ true → used_by writes t o all k ≡ true
  used_by_from t o all (Opened n) b u m = absurd (false≢true u)
  used_by_from t o all (Accessed d o' v ▹ k) b u m =
      grind (arith, nat_tests, has_used_cases writes k d o' v b o all u, used_by_from t o all k b)
  used_by_from t o all (_ ▹ k) b u m = used_by_from t o all k b u m

  -- where a lock is free for a, each holder is an ancestor of a
  pub may_asks : (h : History V) (a o : ℕ) (all : Bool) → may_by_steps writes h a o all h ≡ true → (x : ℕ)
      → holds writes h o all x ≡ true → is_ancestor h x a ≡ true
  may_asks h a o all m x k = grind (arith, nat_tests, used_by_found, may_tells writes h h a o, at_some)

  -- where each holder is an ancestor of a, the lock is free for a
  pub may_if : (h : History V) (a o : ℕ) (all : Bool)
      → ((x : ℕ) → holds writes h o all x ≡ true → is_ancestor h x a ≡ true) → may_by_steps writes h a o all h ≡ true
  may_if h a o all each = grind (arith, nat_tests, may_from writes h h a o all, used_by_from, some_at)

  -- of a write holder and any other holder, one is an ancestor of the other
  pub exclusive : (h : History V) → Orderly h → Guarded writes h → (o x y : ℕ) → holds writes h o true x ≡ true
      → holds writes h o false y ≡ true → (is_ancestor h x y || is_ancestor h y x) ≡ true
  exclusive h w g o x y hx hy = grind (arith, nat_tests, used_by_found, exclusion writes h w g, at_some)
