-- Lists of objects, with more objects noted.
use Rattle.std.proofs.Common.{Bool, List, [], ap, false, refl, ℕ, ◌∙◌, ◌∷◌, ◌≡◌, eqb, arith, get_or, length, take, ◌+◌}
use Rattle.std.proofs.{Common.{◌<◌, ◌||◌, ◌++◌}, lemmas.List.{take_more, Folds.list_any-append}}
use Rattle.std.{proofs.lemmas.Bool.Decides.nat_tests, specs.List.IsDistinct}
use Rattle.argus_actions.specs.declared.action_id.ActionId.{ActionId}
use Rattle.argus_contents.specs.declared.obj_id.ObjId.{ObjId}
use Rattle.argus_core.{specs.Moving.is_listed, proofs.Changes.not_before}
use Rattle.argus_model.proofs.Bools.{or_none}
use Rattle.argus_objects.specs.{Holdings.{noted, passed}, CellChanges.{is_reader, without_reader}}

-- an object more on a list
pub is_listed_noted : (x : ObjId) (list : List ObjId) (o : ℕ)
    → is_listed (noted x list) o ≡ (is_listed list o || eqb x.0 o)
is_listed_noted x list o = grind (arith, nat_tests, list_any-append)

or_turn : (a b c : Bool) → ((a || b) || c) ≡ (a || (b || c))
or_turn a b c = grind (arith, nat_tests)

pub is_listed_passed : (os list : List ObjId) (o : ℕ) → is_listed (passed os list) o
    ≡ (is_listed list o || is_listed os o)
is_listed_passed [] list o = or_none (is_listed list o)
is_listed_passed (x ∷ os) list o =
    grind (arith, nat_tests, is_listed_noted, or_turn, is_listed_passed os (noted x list) o)

passed_last : (xs list : List ObjId) (o : ObjId) → passed (xs ++ o ∷ []) list ≡ noted o (passed xs list)
passed_last [] list o = refl
passed_last (x ∷ xs) list o = passed_last xs (noted x list) o

-- one object more is passed
pub passed_more : (os list : List ObjId) (i : ℕ) (d : ObjId) → i < length os
    → passed (take (i + 1) os) list ≡ noted (get_or os i d) (passed (take i os) list)
passed_more os list i d lt =
    ap (λ xs. passed xs list) (take_more os i d lt) ∙ passed_last (take i os) list (get_or os i d)

-- the next object is on the list to which those before it were passed exactly if it was there at first
pub listed_yet : (os list : List ObjId) (i : ℕ) (d : ObjId) → IsDistinct (λ x y. eqb x.0 y.0) os → i < length os
    → is_listed (passed (take i os) list) (get_or os i d).0 ≡ is_listed list (get_or os i d).0
listed_yet os list i d once lt = grind (arith, nat_tests, is_listed_passed, not_before)

pub readers_none : (a : ActionId) (rs : List ActionId) → is_reader a rs ≡ false → without_reader a rs ≡ rs
readers_none a [] e = refl
readers_none a (x ∷ rs) e = grind (arith, nat_tests, readers_none a rs)
