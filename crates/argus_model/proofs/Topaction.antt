-- Each action whose work is there for good has one committed topaction above it, whose work has its accesses.
use Rattle.std.proofs.Common.{Bool, List, None, Option, Some, ap, arith, cond, false, refl, subst, suc, sym, true, zero}
use Rattle.std.proofs.{Common.{ℕ, ⊎_elim, ◌++◌, ◌<◌, ◌∙◌, ◌∷◌, ◌≡◌, ◌≢◌}, lemmas.Bool.false_from_ne_true}
use Rattle.std.proofs.lemmas.Bool.{false≢true, ne_eqb, or_cases, both_ways, cases_Bool, eq-eqb, eqb-true}
use Rattle.std.proofs.lemmas.Bool.Decides.{nat_tests}
use Rattle.std.specs.{List.Sorted.IsPermutation, Prelude.{◌&&◌, ◌==◌}}
use Rattle.argus_model.specs.{Ancestors.{is_ancestor, parent}, Event.{Aborted, Accessed, Began, Committed, Event}}
use Rattle.argus_model.specs.{Lawful.Lawful, OwnerSteps.{as_owner, is_exactly, owner_by_steps, stands}, Meaning.Meaning}
use Rattle.argus_model.specs.{Numbers.contains, History.{History, HistoryOpening, Opened, folded, next_action, ◌▹◌}}
use Rattle.argus_model.specs.{Owner.{Base, is_base, is_held_by, owner}, Status.{has_committed, is_begun, is_live}}
use Rattle.argus_model.specs.Work.{Access, IsItsTopaction, accesses_by, committed_topactions, serial_order, work}
use Rattle.argus_model.proofs.Ancestors.{ParentsAreOlder, ancestor_le, ancestor_self, lineage_cases, next_pos}
use Rattle.argus_model.proofs.{Ancestors.{parent_older, split_lineage}, OwnerRules.{committed_unfolded, owner_ancestor}}
use Rattle.argus_model.proofs.{Counting.{base_of, base_spared, tops_are}, Bools.same_bool, Numbers.joined_cases}
use Rattle.argus_model.proofs.{Owner.{is_held_by_is, owner_is, parent_unfolded}, Serial.{base_stands, lineage-base}}
use Rattle.argus_model.proofs.{Exclusion.Related, Lawful.lawful_orderly, Standing.{handed_from, owner_cases, parent_is}}
use Rattle.argus_model.proofs.Work.{work_final}
use Rattle.argus_model.proofs.Complete.{accesses_agree, handed_both, handed_other, kept_exact, standing_work}
use Rattle.argus_model.proofs.OwnerRules.{owner_gone, owner_passed, owner_self, ancestor_owner, committed_begun}
use Rattle.argus_model.proofs.{Live.{is_begun_from, is_begun_parts, live_stands}, Topactions.{serial_tops, tops_over}}
use Rattle.argus_model.proofs.Standing.{parents_are_older, some_at, stands_upward, Orderly, at_some, handed_cases}

-- of two ancestors of an action one is an ancestor of the other
related : {V : Type 0} (h : History V) → ParentsAreOlder h → (x y a : ℕ) → a < next_action h
    → is_ancestor h x a ≡ true → is_ancestor h y a ≡ true → Related h x y
related h f x y a l m n = grind (arith, nat_tests, split_lineage h x a f l m, split_lineage h y a f l n, joined_cases)

-- what is known of a committed topaction
record Top {V : Type 0} (h : History V) (t : ℕ) : Type 0 where
  committed : has_committed h t ≡ true
  parent : parent h t ≡ 0
  unfolded : folded h < t
  begun : t < next_action h

top_of : {V : Type 0} (h : History V) → Orderly h → (t : ℕ) → contains (committed_topactions h) t ≡ true → Top h t
top_of h w t m = grind (arith, nat_tests, tops_are, committed_unfolded, committed_begun)

-- above a topaction is the base alone
above_top : {V : Type 0} (h : History V) → Orderly h → (t x : ℕ) → 0 < t → t < next_action h → parent h t ≡ 0
    → is_ancestor h x t ≡ true → x ≢ 0 → x ≡ t
above_top h w t x z l p a n = grind (arith, nat_tests, parent_older, parents_are_older, lineage-base)

-- what stands doesn't stand under a committed topaction
not_under : {V : Type 0} (h : History V) → Orderly h → (t s a : ℕ) → contains (committed_topactions h) t ≡ true
    → s ≢ 0 → stands h s ≡ true → owner_by_steps h a ≡ Some s → a < next_action h → is_ancestor h t a ≡ false
not_under h w t s a m n l e b =
    let q = top_of h w t m in
    false_from_ne_true (is_ancestor h t a) (λ k.
    both_ways (stands h t) (tops_over h w t m)
    (⊎_elim
    (λ j. stands_upward h w t s l j)
    (λ j. subst (λ u. stands h u ≡ true)
    (above_top h w t s (let u = q.unfolded in omega arith) q.begun q.parent j n) l)
    (related h (parents_are_older h w) t s a b k (owner_ancestor h w a s e))))

-- the accesses that are there for good and were made under t
abbrev for_good_under : {V : Type 0} → History V → ℕ → ℕ → Bool
for_good_under h t a = is_exactly (owner_by_steps h a) 0 && is_ancestor h t a

same_ancestor : {V : Type 0} (h : History V) (e : Event V) (t a : ℕ) → a < next_action h
    → is_ancestor h t a ≡ is_ancestor (e ▹ h) t a
same_ancestor h (Began from) t a l =
    ⊎_elim (λ k. absurd (omega (arith, k.0))) (λ k. sym (ap (λ u. contains u t) k.1)) (lineage_cases h from a)
same_ancestor h _ t a l = refl

both_same : (a b c d : Bool) → a ≡ c → b ≡ d → (a && b) ≡ (c && d)
both_same a b c d e f = ap (λ x. x && b) e ∙ ap (λ x. c && x) f

-- the commit of another topaction adds nothing that was made under t
other_top : {V : Type 0} (h : History V) → Orderly h → (t s a : ℕ) → contains (committed_topactions h) t ≡ true
    → s ≢ 0 → stands h s ≡ true → parent h s ≡ 0 → a < next_action h
    → for_good_under h t a ≡ for_good_under (Committed s ▹ h) t a
other_top h w t s a m n l p b = grind (arith, nat_tests, not_under, at_some, handed_both)

-- what a topaction answers for is there for good once it commits
own_top : {V : Type 0} (h : History V) → Orderly h → (s a : ℕ) → s ≢ 0 → stands h s ≡ true → parent h s ≡ 0
    → is_exactly (owner_by_steps h a) s ≡ for_good_under (Committed s ▹ h) s a
own_top h w s a n l p =
    let above = owner_ancestor h w a s in let le = ancestor_le h s 0 (parents_are_older h w) (next_pos h) in
    let up = ancestor_owner h w a 0 s in
    grind (arith, nat_tests, some_at, handed_from, at_some, above, le, up, handed_cases, same_bool)

moved : {V : Type 0} (h : History V) (e : Event V) → Orderly h → Orderly (e ▹ h) → (t : ℕ)
    → contains (committed_topactions h) t ≡ true → (es fs : List (Access V)) → es ≡ fs → IsPermutation (work h t) es
    → IsPermutation (work (e ▹ h) t) fs
moved h e w v t m es fs same p = grind (arith, nat_tests, work_final, tops_over)

-- the work of a committed topaction is what was made under it and is there for good
pub top_work : {V : Type 0} (h : History V) → Orderly h → (t : ℕ) → contains (committed_topactions h) t ≡ true
    → IsPermutation (work h t) (accesses_by (for_good_under h t) h)
top_work (Opened n) w t m = absurd (false≢true m)
top_work (Began from ▹ h) w t m =
    grind (arith, nat_tests, moved, accesses_agree, both_same, owner_cases, same_ancestor, top_work h w.1 t m)
top_work (Aborted z ▹ h) w t m =
    grind (arith, nat_tests, moved, accesses_agree, kept_exact, base_spared, top_work h w.1 t m)
top_work {V} (Accessed b o v ▹ h) w t m =
    let x : Access V = record { object = o; what = v } in
    let es = accesses_by (for_good_under h t) h in
    let not_yet : for_good_under h t b ≡ false =
    ap (λ q. is_exactly q 0 && is_ancestor h t b) (at_some (owner_by_steps h b) b w.0.standing)
    ∙ ap (λ c. c && is_ancestor h t b) (ne_eqb b 0 w.0.not_base) in
    moved h (Accessed b o v) w.1 w t m es (cond (for_good_under h t b) (x ∷ es) es)
    (sym (ap (λ c. cond c (x ∷ es) es) not_yet)) (top_work h w.1 t m)
top_work (Committed s ▹ h) w t m =
    let p = parent h s in
    let g = Committed s ▹ h in
    let tops = committed_topactions h in
    let before = accesses_by (for_good_under h t) h in
    ⊎_elim
    (λ e. let p0 : p ≡ 0 = eqb-true p 0 e in
    ⊎_elim
    (λ k. let i = parent_is h (parents_are_older h w.1) s w.0.not_base w.0.standing in
    let own : work g s ≡ work h s =
    ap (λ q. cond q (work h s ++ work h s) (work h s)) (ne_eqb p s (omega (arith, i.0))) in
    subst (λ u. IsPermutation (work g u) (accesses_by (for_good_under g u) h)) (sym (eqb-true t s k))
    (subst (λ u. IsPermutation u (accesses_by (for_good_under g s) h)) (sym own)
    (subst (λ u. IsPermutation (work h s) u)
    (accesses_agree (λ a. is_exactly (owner_by_steps h a) s) (for_good_under g s) h w.1
    (λ a _ l. own_top h w.1 s a w.0.not_base w.0.standing p0))
    (standing_work h w.1 s w.0.standing))))
    (λ k. moved h (Committed s) w.1 w t k before (accesses_by (for_good_under g t) h)
    (accesses_agree (for_good_under h t) (for_good_under g t) h w.1
    (λ a _ l. other_top h w.1 t s a k w.0.not_base w.0.standing p0 l))
    (top_work h w.1 t k))
    (or_cases (t == s) (contains tops t) (subst (λ b. contains (cond b (s ∷ tops) tops) t ≡ true) e m)))
    (λ e. let k : contains tops t ≡ true = subst (λ b. contains (cond b (s ∷ tops) tops) t ≡ true) e m in
    moved h (Committed s) w.1 w t k before (accesses_by (for_good_under g t) h)
    (accesses_agree (for_good_under h t) (for_good_under g t) h w.1
    (λ a _ l. ap (λ b. b && is_ancestor h t a)
    (handed_other s p 0 (owner_by_steps h a)
    (λ q. false≢true (sym e ∙ eq-eqb p 0 q)) (λ q. w.0.not_base (sym q)))))
    (top_work h w.1 t k))
    (cases_Bool (p == 0))

-- no two committed topactions are ancestors of one action
only_one : {V : Type 0} (h : History V) → Orderly h → (a t x : ℕ) → a < next_action h
    → contains (committed_topactions h) t ≡ true → contains (committed_topactions h) x ≡ true
    → is_ancestor h t a ≡ true → is_ancestor h x a ≡ true → x ≡ t
only_one h w a t x b m k i j =
    let p = top_of h w t m in
    let q = top_of h w x k in
    let t0 : 0 < t = let u = p.unfolded in omega arith in
    let x0 : 0 < x = let u = q.unfolded in omega arith in
    ⊎_elim
    (λ r. above_top h w t x t0 p.begun p.parent r (omega arith))
    (λ r. sym (above_top h w x t x0 q.begun q.parent r (omega arith)))
    (related h (parents_are_older h w) x t a b j i)

-- what is there for good has committed
good_committed : {V : Type 0} (h : History V) → Orderly h → (a : ℕ) → folded h < a → a < next_action h
    → owner_by_steps h a ≡ Some 0 → has_committed h a ≡ true
good_committed h w a u b e = grind (arith, nat_tests, owner_gone, owner_self)

its_top : {V : Type 0} (h : History V) → Orderly h → (n a : ℕ) → a < n → folded h < a → a < next_action h
    → owner_by_steps h a ≡ Some 0 → (t : ℕ) × IsItsTopaction h a t
its_top h w zero a l u b e = absurd (omega arith)
its_top h w (suc n) a l u b e =
    grind (
      arith,
      nat_tests,
      good_committed h w a u b e,
      parent_older h a,
      parents_are_older h w,
      tops_are h w a,
      ancestor_self h a,
      only_one h w a a,
      its_top h w n,
      parent_unfolded h w a u b,
      owner_passed h w a,
      only_one h w a,
    )

base_exact : (q : Option ℕ) → is_exactly q 0 ≡ is_base (as_owner q)
base_exact None = refl
base_exact (Some x) = grind (arith, nat_tests)

plain_base : {V : Type 0} (h : History V) → Orderly h → (a : ℕ) → folded h < a → a < next_action h
    → is_exactly (owner_by_steps h a) 0 ≡ is_base (owner h a)
plain_base h w a u b =
    base_exact (owner_by_steps h a) ∙ sym (ap is_base (owner_is h w a (is_begun_from h a u b)))

module _ {V C A : Type 0} (meaning : Meaning V C A) (opening : HistoryOpening C) where
  -- the serial order is each access that is there for good
  pub serial_complete : (h : History V) → Lawful meaning opening h
      → IsPermutation (serial_order h) (accesses_by (λ b. is_base (owner h b)) h)
  serial_complete h l =
      let w = lawful_orderly meaning opening h l in
      grind (arith, nat_tests, w, serial_tops h, accesses_agree, plain_base h, standing_work h, base_stands h)

  -- the work of a committed topaction is each access under it that is there for good
  pub committed_complete : (h : History V) (t : ℕ) → Lawful meaning opening h
      → contains (committed_topactions h) t ≡ true
      → IsPermutation (work h t) (accesses_by (λ b. is_base (owner h b) && is_ancestor h t b) h)
  committed_complete h t l m =
      grind (arith, nat_tests, lawful_orderly meaning opening h l, accesses_agree, plain_base h, top_work h)

  -- the work of a live action is each access that it answers for
  pub live_complete : (h : History V) (a : ℕ) → Lawful meaning opening h → is_live h a ≡ true
      → IsPermutation (work h a) (accesses_by (λ b. is_held_by a (owner h b)) h)
  live_complete h a l k =
      let w = lawful_orderly meaning opening h l in let o = owner_is h w in let b = is_begun_from h in
      grind (arith, nat_tests, live_stands h w, accesses_agree, o, b, is_held_by_is a, standing_work h w)

  -- what is there for good has one committed topaction above it
  pub one_topaction : (h : History V) (a : ℕ) → Lawful meaning opening h → is_begun h a ≡ true → owner h a ≡ Base
      → (t : ℕ) × IsItsTopaction h a t
  one_topaction h a l k e =
      let w = lawful_orderly meaning opening h l in
      let q = is_begun_parts h a k in
      its_top h w (suc a) a (omega arith) q.0 q.1 (base_of (owner_by_steps h a) (sym (owner_is h w a k) ∙ e))
