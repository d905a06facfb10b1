-- The work of an action is each access that it owns, once.
use Rattle.std.proofs.Common.{Bool, List, None, Option, Some, [], ap, arith, cond, false, refl, subst, sym, true, ℕ}
use Rattle.std.proofs.Common.{⊎_elim, ◌++◌, ◌<◌, ◌∙◌, ◌∷◌, ◌≡◌, ◌≢◌}
use Rattle.std.proofs.{lemmas.Bool.Decides.nat_tests, lemmas.List.Sorted.{IsPermutation-refl, IsPermutation-trans}}
use Rattle.std.proofs.lemmas.Bool.{cases_Bool, cases_eq, eq-eqb, eqb-true, false≢true, ne_eqb}
use Rattle.std.proofs.lemmas.List.Sorted.{IsPermutation-append, IsPermutation-cons, IsPermutation-middle}
use Rattle.std.specs.{List.Sorted.IsPermutation, Prelude.◌||◌}
use Rattle.argus_model.specs.{Ancestors.parent, Event.{Aborted, Accessed, Began, Committed}}
use Rattle.argus_model.specs.{History.{History, Opened, folded, next_action, ◌▹◌}, Work.{accesses_by, work}}
use Rattle.argus_model.specs.OwnerSteps.{is_exactly, owner_by_steps, owner_inherited, stands, unless_lost}
use Rattle.argus_model.proofs.Standing.{Orderly, at_some, owner_begun, owner_cases, parents_are_older, stands_begun}
use Rattle.argus_model.proofs.{Standing.{stands_commit, stands_old, stands_unfolded, stands_upward}, Work.no_work}

-- tests that agree on what has begun find the same accesses
pub accesses_agree : {V : Type 0} (t u : ℕ → Bool) (h : History V) → Orderly h
    → ((a : ℕ) → folded h < a → a < next_action h → t a ≡ u a) → accesses_by t h ≡ accesses_by u h
accesses_agree t u (Opened n) w same = refl
accesses_agree t u (Began from ▹ h) w same = accesses_agree t u h w.1 (λ a l m. same a l (omega arith))
accesses_agree {V} t u (Accessed a o v ▹ h) w same =
    grind (arith, nat_tests, stands_unfolded, stands_begun, accesses_agree t u h w.1 same)
accesses_agree t u (_ ▹ h) w same = accesses_agree t u h w.1 same

no_accesses : {V : Type 0} (h : History V) → accesses_by (λ a. false) h ≡ []
no_accesses (Opened n) = refl
no_accesses (Began from ▹ h) = no_accesses h
no_accesses (_ ▹ h) = no_accesses h

one_more : {X : Type 0} (b : Bool) (x : X) (xs ys : List X) → IsPermutation xs ys
    → IsPermutation (cond b (x ∷ xs) xs) (cond b (x ∷ ys) ys)
one_more true x xs ys p = IsPermutation-cons x xs ys p
one_more false x xs ys p = p

one_of_two : {X : Type 0} (b c : Bool) (x : X) (xs ys zs : List X) → (b ≡ true → c ≡ false)
    → IsPermutation (xs ++ ys) zs
    → IsPermutation (cond b (x ∷ xs) xs ++ cond c (x ∷ ys) ys) (cond (b || c) (x ∷ zs) zs)
one_of_two true true x xs ys zs n p = absurd (false≢true (sym (n refl)))
one_of_two true false x xs ys zs n p = IsPermutation-cons x (xs ++ ys) zs p
one_of_two false true x xs ys zs n p =
    IsPermutation-trans (xs ++ x ∷ ys) (x ∷ (xs ++ ys)) (x ∷ zs) (IsPermutation-middle xs x ys)
    (IsPermutation-cons x (xs ++ ys) zs p)
one_of_two false false x xs ys zs n p = p

-- the accesses of two tests that never both hold, beside each other
two_tests : {V : Type 0} (t u : ℕ → Bool) → ((a : ℕ) → t a ≡ true → u a ≡ false) → (h : History V)
    → IsPermutation (accesses_by t h ++ accesses_by u h) (accesses_by (λ a. t a || u a) h)
two_tests t u n (Opened m) = IsPermutation-refl []
two_tests t u n (Accessed a o v ▹ h) = grind (arith, nat_tests, one_of_two, two_tests t u n h)
two_tests t u n (_ ▹ h) = two_tests t u n h

not_both : (q : Option ℕ) (s y : ℕ) → y ≢ s → is_exactly q s ≡ true → is_exactly q y ≡ false
not_both None s y n e = refl
not_both (Some x) s y n e = ne_eqb x y (λ k. n (sym k ∙ eqb-true x s e))

-- after s hands up to y, y answers for what either did
pub handed_both : (s p y : ℕ) (q : Option ℕ) → p ≡ y → y ≢ s
    → (is_exactly q s || is_exactly q y) ≡ is_exactly (owner_inherited s p q) y
handed_both s p y None e n = refl
handed_both s p y (Some x) e n = grind (arith, nat_tests)

-- after s hands up to p, any other answers for what it did before
pub handed_other : (s p y : ℕ) (q : Option ℕ) → p ≢ y → y ≢ s
    → is_exactly q y ≡ is_exactly (owner_inherited s p q) y
handed_other s p y None e n = refl
handed_other s p y (Some x) e n = grind (arith, nat_tests)

-- who is not lost answers for what it did before
pub kept_exact : (lost : ℕ → Bool) (y : ℕ) (q : Option ℕ) → lost y ≡ false
    → is_exactly q y ≡ is_exactly (unless_lost lost q) y
kept_exact lost y None n = refl
kept_exact lost y (Some x) n = grind (arith, nat_tests, cases_Bool (lost x))

-- what began last answers for nothing that was done before
new_owns_none : {V : Type 0} (h : History V) → Orderly h → (y a : ℕ) → y ≡ next_action h
    → is_exactly (owner_by_steps h a) y ≡ false
new_owns_none h w y a e = grind (arith, nat_tests, owner_begun, parents_are_older, at_some)

-- the work of what stands is what it answers for
pub standing_work : {V : Type 0} (h : History V) → Orderly h → (y : ℕ) → stands h y ≡ true
    → IsPermutation (work h y) (accesses_by (λ a. is_exactly (owner_by_steps h a) y) h)
standing_work (Opened n) w y l = IsPermutation-refl []
standing_work (Began from ▹ h) w y l =
    let g = Began from ▹ h in
    let same : accesses_by (λ a. is_exactly (owner_by_steps h a) y) h
    ≡ accesses_by (λ a. is_exactly (owner_by_steps g a) y) h =
    accesses_agree (λ a. is_exactly (owner_by_steps h a) y) (λ a. is_exactly (owner_by_steps g a) y) h w.1
    (λ a _ m. ap (λ q. is_exactly q y)
    (⊎_elim (λ k. absurd (omega (arith, k.0))) (λ k. sym k.1) (owner_cases h from a))) in
    ⊎_elim
    (λ e. let none : accesses_by (λ a. is_exactly (owner_by_steps h a) y) h ≡ [] =
    accesses_agree (λ a. is_exactly (owner_by_steps h a) y) (λ a. false) h w.1
    (λ a _ m. new_owns_none h w.1 y a e) ∙ no_accesses h in
    subst (λ es. IsPermutation es (accesses_by (λ a. is_exactly (owner_by_steps g a) y) h))
    (sym (no_work h w.1 y (omega arith)))
    (subst (λ es. IsPermutation [] es) (sym none ∙ same) (IsPermutation-refl [])))
    (λ n. subst (λ es. IsPermutation (work h y) es) same
    (standing_work h w.1 y (sym (stands_old h from y n) ∙ l)))
    (cases_eq y (next_action h))
standing_work (Committed s ▹ h) w y l =
    let p = parent h s in
    let g = Committed s ▹ h in
    let k = stands_commit h (parents_are_older h w.1) (stands_upward h w.1) s y w.0.not_base w.0.standing l in
    let of_s = λ (a : ℕ). is_exactly (owner_by_steps h a) s in
    let of_y = λ (a : ℕ). is_exactly (owner_by_steps h a) y in
    let then = λ (a : ℕ). is_exactly (owner_by_steps g a) y in
    ⊎_elim
    (λ e. subst (λ b. IsPermutation (cond b (work h s ++ work h y) (work h y)) (accesses_by then h))
    (sym (eq-eqb p y e))
    (IsPermutation-trans (work h s ++ work h y) (accesses_by of_s h ++ accesses_by of_y h) (accesses_by then h)
    (IsPermutation-append (work h s) (accesses_by of_s h) (work h y) (accesses_by of_y h)
    (standing_work h w.1 s w.0.standing) (standing_work h w.1 y k.0))
    (subst (λ es. IsPermutation (accesses_by of_s h ++ accesses_by of_y h) es)
    (accesses_agree (λ a. of_s a || of_y a) then h w.1 (λ a _ m. handed_both s p y (owner_by_steps h a) e k.1))
    (two_tests of_s of_y (λ a m. not_both (owner_by_steps h a) s y k.1 m) h))))
    (λ n. subst (λ b. IsPermutation (cond b (work h s ++ work h y) (work h y)) (accesses_by then h))
    (sym (ne_eqb p y n))
    (subst (λ es. IsPermutation (work h y) es)
    (accesses_agree of_y then h w.1 (λ a _ m. handed_other s p y (owner_by_steps h a) n k.1))
    (standing_work h w.1 y k.0)))
    (cases_eq p y)
standing_work (Aborted z ▹ h) w y l = grind (arith, nat_tests, standing_work h w.1 y)
standing_work {V} (Accessed a o v ▹ h) w y l = grind (arith, nat_tests, at_some, one_more, standing_work h w.1 y l)
