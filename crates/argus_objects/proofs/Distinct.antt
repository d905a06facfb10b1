-- Lists in which each object comes once.
use Rattle.std.proofs.Common.{◌≡◌, Bool, true, false, eqb, ◌||◌, if◌then◌else◌, List, [], ◌∷◌, ◌++◌, refl, sym, arith}
use Rattle.std.{proofs.lemmas.{List.{append_assoc, append-nil}, Bool.Decides.nat_tests}, specs.List.list_any}
use Rattle.std.specs.List.{AllByRecursion, IsDistinct}
use Rattle.argus_contents.specs.declared.obj_id.ObjId.{ObjId}
use Rattle.argus_objects.specs.ObjectList.{passed}

pub distinct_none : IsDistinct (λ (x y : ObjId). eqb x.0 y.0) []
unfolding IsDistinct
distinct_none = tt

-- another object than all of these and one more
apart_push : (x : ObjId) (xs : List ObjId) (o : ObjId) → AllByRecursion (λ (y : ObjId). eqb x.0 y.0 ≡ false) xs
    → eqb x.0 o.0 ≡ false → AllByRecursion (λ (y : ObjId). eqb x.0 y.0 ≡ false) (xs ++ o ∷ [])
apart_push x [] o all e = (e, tt)
apart_push x (y ∷ ys) o all e = (all.0, apart_push x ys o all.1 e)

neither : (b c : Bool) → (b || c) ≡ false → (b ≡ false) × (c ≡ false)
neither b c e = grind (arith, nat_tests)

-- an object that is not in the list, at its end
distinct_push : (xs : List ObjId) (o : ObjId) → IsDistinct (λ (x y : ObjId). eqb x.0 y.0) xs
    → list_any (λ (x : ObjId). eqb x.0 o.0) xs ≡ false → IsDistinct (λ (x y : ObjId). eqb x.0 y.0) (xs ++ o ∷ [])
unfolding IsDistinct
distinct_push [] o d absent = (tt, tt)
distinct_push (x ∷ xs) o d absent = grind (arith, nat_tests, neither, apart_push, distinct_push xs o d.1)

-- the same, whether it was put there or not
pub distinct_pushed : (put : Bool) (xs : List ObjId) (o : ObjId) → IsDistinct (λ (x y : ObjId). eqb x.0 y.0) xs
    → list_any (λ (x : ObjId). eqb x.0 o.0) xs ≡ false
    → IsDistinct (λ (x y : ObjId). eqb x.0 y.0) (if put then xs ++ o ∷ [] else xs)
distinct_pushed true xs o d absent = distinct_push xs o d absent
distinct_pushed false xs o d absent = d

apart_at : (x : ObjId) (xs : List ObjId) (o : ObjId) (os : List ObjId)
    → AllByRecursion (λ (y : ObjId). eqb x.0 y.0 ≡ false) (xs ++ o ∷ os) → eqb x.0 o.0 ≡ false
apart_at x [] o os all = all.0
apart_at x (y ∷ ys) o os all = apart_at x ys o os all.1

-- what stands after a list is not in it
absent_before : (xs : List ObjId) (o : ObjId) (os : List ObjId)
    → IsDistinct (λ (x y : ObjId). eqb x.0 y.0) (xs ++ o ∷ os) → list_any (λ (x : ObjId). eqb x.0 o.0) xs ≡ false
unfolding IsDistinct
absent_before [] o os d = refl
absent_before (x ∷ xs) o os d = rw (apart_at x xs o os d.0) (absent_before xs o os d.1)

passed_onto : (os list : List ObjId) → IsDistinct (λ (x y : ObjId). eqb x.0 y.0) (list ++ os)
    → passed os list ≡ list ++ os
passed_onto [] list d = sym (append-nil list)
passed_onto (o ∷ os) list d = grind (arith, nat_tests, absent_before, append_assoc, passed_onto os (list ++ o ∷ []))

-- objects passed to who has none are that list
pub passed_to_none : (os : List ObjId) → IsDistinct (λ (x y : ObjId). eqb x.0 y.0) os → passed os [] ≡ os
passed_to_none os d = passed_onto os [] d
