-- Numbers in increasing order, and climbs that go on where the last one ended.
use Rattle.std.proofs.Common.{◌≡◌, ℕ, ◌+◌, ◌<◌, Bool, true, false, ltb, ◌&&◌, List, [], ◌∷◌, ◌++◌, filter, reverse}
use Rattle.std.proofs.{Common.{length, take, get_or, refl, ◌∙◌, ap, arith, zero, suc}, lemmas.Bool.and_parts}
use Rattle.std.proofs.lemmas.{Bool.{and_right, Decides.nat_tests}, List.{take_more, Folds.list_all-append}}
use Rattle.std.{proofs.lemmas.Grind.reverse_onto, specs.List.list_all}
use Rattle.argus_actions.{specs.{declared.action_id.ActionId.ActionId, Tree.{Tree, is_ancestor}}, proofs.Above.above_le}
use Rattle.argus_actions.proofs.Above.{above_trans, above_linear}
use Rattle.argus_objects.{specs.Rules.{all_above, is_ascending, is_chain, are_up_to}, proofs.Chains.all_imp}
use Rattle.argus_objects.proofs.Chains.{all_filter, strictly_lt}

pub ascending_filter : (keep : ActionId → Bool) (ids : List ActionId) → is_ascending ids ≡ true
    → is_ascending (filter keep ids) ≡ true
ascending_filter keep [] up = refl
ascending_filter keep (x ∷ xs) up = grind (arith, nat_tests, all_filter, ascending_filter keep xs)

-- what holds of all holds at each place
pub all_at : (p : ActionId → Bool) (ys : List ActionId) (i : ℕ) (e : ActionId) → list_all p ys ≡ true → i < length ys
    → p (get_or ys i e) ≡ true
all_at p [] i e all b = absurd (omega arith)
all_at p (y ∷ ys) zero e all b = (and_parts (p y) (list_all p ys) all).0
all_at p (y ∷ ys) (suc i) e all b = all_at p ys i e (and_parts (p y) (list_all p ys) all).1 (omega arith)

-- those before a place have lower numbers
pub lower_before : (ids : List ActionId) (k : ℕ) (d : ActionId) → is_ascending ids ≡ true → k < length ids
    → list_all (λ x. ltb x.0 (get_or ids k d).0) (take k ids) ≡ true
lower_before [] k d up below = absurd (omega arith)
lower_before (x ∷ xs) zero d up below = refl
lower_before (x ∷ xs) (suc k) d up below = grind (arith, nat_tests, all_at, lower_before xs k d)

-- of two places the one behind has the greater number
pub rising : (ids : List ActionId) (i j : ℕ) (d : ActionId) → is_ascending ids ≡ true → i < j → j < length ids
    → (get_or ids i d).0 < (get_or ids j d).0
rising [] i j d up lt below = absurd (omega arith)
rising (x ∷ xs) i zero d up lt below = absurd (omega arith)
rising (x ∷ xs) zero (suc j) d up lt below = grind (arith, nat_tests, all_at)
rising (x ∷ xs) (suc i) (suc j) d up lt below =
    grind (arith, nat_tests, rising xs i j d (and_parts (list_all (λ y. ltb x.0 y.0) xs) (is_ascending xs) up).1)

-- if y is above z, then of the lower numbers the same are above y as are above z
same_above : (t : Tree) (y z : ActionId) (ids : List ActionId) → is_ancestor t y.0 z.0 ≡ true
    → list_all (λ x. ltb x.0 y.0) ids ≡ true → all_above t z ids ≡ all_above t y ids
same_above t y z [] up low = refl
same_above t y z (x ∷ xs) up low = grind (arith, nat_tests, above_linear, above_trans, same_above t y z xs up)

and_true : (b : Bool) → (b && (true && true)) ≡ b
and_true b = grind (arith, nat_tests)

-- one more is above, and the climb goes on from it
pub climb_on : (t : Tree) (ids : List ActionId) (k : ℕ) (at d : ActionId) → is_ascending ids ≡ true → k < length ids
    → is_ancestor t (get_or ids k d).0 at.0 ≡ true
    → all_above t at (take (k + 1) ids) ≡ all_above t (get_or ids k d) (take k ids)
climb_on t ids k at d asc below up =
    ap (all_above t at) (take_more ids k d below)
    ∙ (list_all-append (λ x. is_ancestor t x.0 at.0) (take k ids) (get_or ids k d ∷ [])
    ∙ (ap (λ b. all_above t at (take k ids) && (b && true)) up
    ∙ (and_true (all_above t at (take k ids))
    ∙ same_above t (get_or ids k d) at (take k ids) up (lower_before ids k d asc below))))

-- one that isn't above ends the climb
pub climb_off : (t : Tree) (ids : List ActionId) (k : ℕ) (at d : ActionId) → k < length ids
    → is_ancestor t (get_or ids k d).0 at.0 ≡ false → all_above t at (take (k + 1) ids) ≡ false
climb_off t ids k at d below off =
    ap (all_above t at) (take_more ids k d below)
    ∙ (list_all-append (λ x. is_ancestor t x.0 at.0) (take k ids) (get_or ids k d ∷ [])
    ∙ and_right (all_above t at (take k ids)) _ (ap (λ b. b && true) off))

and_comm : (a b : Bool) → (a && (b && true)) ≡ (b && a)
and_comm a b = grind (arith, nat_tests)

pub list_all_reverse : {X : Type 0} (p : X → Bool) (xs : List X) → list_all p (reverse xs) ≡ list_all p xs
list_all_reverse p [] = refl
list_all_reverse p (x ∷ xs) = grind (arith, nat_tests, reverse_onto, list_all-append, and_comm, list_all_reverse p xs)

ascending_push : (ids : List ActionId) (y : ActionId) → is_ascending ids ≡ true → list_all (λ x. ltb x.0 y.0) ids ≡ true
    → is_ascending (ids ++ y ∷ []) ≡ true
ascending_push [] y up low = refl
ascending_push (x ∷ xs) y up low = grind (arith, nat_tests, list_all-append, ascending_push xs y)

-- a chain, turned round, stands in increasing number
pub chain_ascends : (t : Tree) (ids : List ActionId) → is_chain t ids ≡ true → is_ascending (reverse ids) ≡ true
chain_ascends t [] chain = refl
chain_ascends t (y ∷ older) chain =
    let rest = chain_ascends t older in
    grind (arith, nat_tests, reverse_onto, ascending_push, list_all_reverse, all_imp, strictly_lt, rest)

-- ancestors have no greater number
pub above_up_to : (t : Tree) (a : ActionId) (ids : List ActionId) → all_above t a ids ≡ true → are_up_to a ids ≡ true
above_up_to t a ids up = grind (arith, nat_tests, all_imp, above_le)
