-- A reader put in its place.
use Rattle.std.proofs.Common.{◌≡◌, ℕ, ◌<◌, ◌≤◌, Bool, true, ltb, List, [], ◌∷◌, ◌++◌, filter, length, take, get_or}
use Rattle.std.proofs.{Common.{refl, ◌∙◌, arith}, lemmas.Bool.{eq-eqb, ne_eqb, lt-ltb, le-ltb, ltb-true, cond-true}}
use Rattle.std.{proofs.lemmas.Bool.{cond-false, and_from, false≢true, Decides.nat_tests}, specs.List.list_all}
use Rattle.argus_actions.specs.declared.action_id.ActionId.{ActionId}
use Rattle.argus_objects.specs.{Rules.is_ascending, CellChanges.{is_reader, with_reader, without_reader}}
use Rattle.argus_objects.{specs.CellChanges.readers_inherited, proofs.{Chains.all_imp, Ascending.lower_before}}
use Rattle.argus_objects.proofs.Ascending.{ascending_filter}

-- a goes before a greater number
pub before : (a x : ActionId) (xs : List ActionId) → a.0 < x.0 → with_reader a (x ∷ xs) ≡ a ∷ x ∷ xs
before a x xs lt = cond-true _ _ _ (lt-ltb a.0 x.0 lt)

pub there : (a x : ActionId) (xs : List ActionId) → x.0 ≡ a.0 → with_reader a (x ∷ xs) ≡ x ∷ xs
there a x xs e = cond-false _ _ _ (le-ltb a.0 x.0 (omega arith)) ∙ cond-true _ _ _ (eq-eqb x.0 a.0 e)

past : (a x : ActionId) (xs : List ActionId) → x.0 < a.0 → with_reader a (x ∷ xs) ≡ x ∷ with_reader a xs
past a x xs lt = cond-false _ _ _ (le-ltb a.0 x.0 (omega arith)) ∙ cond-false _ _ _ (ne_eqb x.0 a.0 (λ e. omega arith))

-- past lower numbers the place is at the end
pub lower_all : (a : ActionId) (xs ys : List ActionId) → list_all (λ x. ltb x.0 a.0) xs ≡ true
    → with_reader a (xs ++ ys) ≡ xs ++ with_reader a ys
lower_all a [] ys low = refl
lower_all a (x ∷ xs) ys low = grind (arith, nat_tests, past, lower_all a xs ys)

pub lower_than : (a : ActionId) (xs : List ActionId) (k : ℕ) (d : ActionId) → is_ascending xs ≡ true → k < length xs
    → (get_or xs k d).0 ≤ a.0 → list_all (λ x. ltb x.0 a.0) (take k xs) ≡ true
lower_than a xs k d asc below le =
    all_imp (λ x. ltb x.0 (get_or xs k d).0) (λ x. ltb x.0 a.0)
    (λ x h. let lt : x.0 < (get_or xs k d).0 = ltb-true x.0 (get_or xs k d).0 h in lt-ltb x.0 a.0 (omega arith))
    (take k xs) (lower_before xs k d asc below)

-- what holds of a and of the rest holds of all
pub all_with : (p : ActionId → Bool) (a : ActionId) (xs : List ActionId) → p a ≡ true → list_all p xs ≡ true
    → list_all p (with_reader a xs) ≡ true
all_with p a [] pa all = and_from (p a) true pa refl
all_with p a (x ∷ xs) pa all = grind (arith, nat_tests, before, there, past, all_with p a xs pa)

pub ascending_with : (a : ActionId) (xs : List ActionId) → is_ascending xs ≡ true
    → is_ascending (with_reader a xs) ≡ true
ascending_with a [] asc = refl
ascending_with a (x ∷ xs) asc = grind (arith, nat_tests, before, all_imp, there, past, all_with, ascending_with a xs)

pub length_filter_le : {X : Type 0} (p : X → Bool) (xs : List X) → length (filter p xs) ≤ length xs
length_filter_le p [] = omega arith
length_filter_le p (x ∷ xs) = grind (arith, nat_tests, length_filter_le p xs)

-- a reader that goes leaves room
pub fewer_readers : (s : ActionId) (xs : List ActionId) → is_reader s xs ≡ true
    → length (without_reader s xs) < length xs
fewer_readers s [] is = absurd (false≢true is)
fewer_readers s (x ∷ xs) is = grind (arith, nat_tests, length_filter_le, fewer_readers s xs)

pub ascending_inherited : (s p : ActionId) (xs : List ActionId) → is_ascending xs ≡ true
    → is_ascending (readers_inherited s p xs) ≡ true
ascending_inherited s p xs asc = grind (arith, nat_tests, ascending_with, ascending_filter)
