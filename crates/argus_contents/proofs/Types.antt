-- Lists of names with types, beside lists of values and by themselves.
use Rattle.std.proofs.Common.{◌≡◌, ◌≢◌, ◌<◌, ◌≤◌, ◌+◌, ◌-◌, ◌++◌, nat_eq, nat_le, ℕ, zero, suc, Bool, true, false, ◌&&◌}
use Rattle.std.proofs.Common.{List, [], ◌∷◌, length, get_or, Option, Some, None, refl, ap, arith}
use Rattle.std.proofs.lemmas.Bool.Decides.{nat_tests}
use Rattle.argus_contents.specs.{Typing.{ty_at, all_typed, each_typed, is_typed}, Shape.{names_of, has_none}}
use Rattle.argus_contents.specs.{Ty.{PlainTy, PlainFields, plain_ty, plain_fields}, declared.name.Name.Name}
use Rattle.argus_contents.specs.{Value.{PlainValue, listed, plain_list, plain_value}, declared.ty.Ty.Ty}
use Rattle.argus_contents.specs.declared.value.Value.{Value}
use Rattle.argus_contents.specs.Ty as plain
use Rattle.argus_contents.specs.Value as said

pub and_false : (b : Bool) → (b && false) ≡ false
and_false true = refl
and_false false = refl

pub other_number : (n : ℕ) (fs : List (Name × Ty)) (vs : List Value) → length vs ≢ length fs
    → each_typed (plain_fields fs) n (listed (plain_list vs)) ≡ false
other_number n [] [] h = absurd (h refl)
other_number n [] (v ∷ vs) h = refl
other_number n (f ∷ fs) [] h = refl
other_number n (f ∷ fs) (v ∷ vs) h = rw (other_number n fs vs (λ e. h (ap suc e))) (and_false _)

pub ty_at-within : (fs : List (Name × Ty)) (t : ℕ) (d : Name × Ty) → t < length fs → ty_at (plain_fields fs) t
    ≡ Some (plain_ty (get_or fs t d).1)
ty_at-within [] t d h = absurd (omega arith)
ty_at-within (f ∷ fs) zero d h = refl
ty_at-within (f ∷ fs) (suc t) d h = ty_at-within fs t d (omega arith)

pub ty_at-past : (fs : List (Name × Ty)) (t : ℕ) → length fs ≤ t → ty_at (plain_fields fs) t ≡ None
ty_at-past [] t h = refl
ty_at-past (f ∷ fs) zero h = absurd (omega arith)
ty_at-past (f ∷ fs) (suc t) h = ty_at-past fs t (omega arith)

pub choice_typed : (fs : PlainFields) (t n : ℕ) (v : PlainValue) (x : PlainTy) → ty_at fs t ≡ Some x
    → is_typed (plain.choice fs) n (said.choice t v) ≡ is_typed x n v
choice_typed fs t n v x e =
    let F : Option PlainTy → Bool = λ o. elim o [ None ↦ false | Some y ↦ is_typed y n v ] in ap F e

pub choice_past : (fs : PlainFields) (t n : ℕ) (v : PlainValue) → ty_at fs t ≡ None
    → is_typed (plain.choice fs) n (said.choice t v) ≡ false
choice_past fs t n v e =
    let F : Option PlainTy → Bool = λ o. elim o [ None ↦ false | Some y ↦ is_typed y n v ] in ap F e

pub length-names : (fs : List (Name × Ty)) → length (names_of (plain_fields fs)) ≡ length fs
length-names [] = refl
length-names (f ∷ fs) = ap suc (length-names fs)

pub empty_names : (fs : List (Name × Ty)) → nat_eq (length fs) 0 ≡ has_none (names_of (plain_fields fs))
empty_names [] = refl
empty_names (f ∷ fs) = grind (arith, nat_tests)

-- a type is within a depth where its parts are within one level less
pub deeper : (d levels : ℕ) → levels ≢ 0 → nat_le d (levels - 1) ≡ nat_le (d + 1) levels
deeper d levels h = grind (arith, nat_tests)

and_assoc : (a b c : Bool) → (a && (b && c)) ≡ ((a && b) && c)
and_assoc true b c = refl
and_assoc false b c = refl

pub all_typed-append : (t : PlainTy) (n : ℕ) (xs ys : List Value) → all_typed t n (listed (plain_list (xs ++ ys)))
    ≡ (all_typed t n (listed (plain_list xs)) && all_typed t n (listed (plain_list ys)))
all_typed-append t n [] ys = refl
all_typed-append t n (x ∷ xs) ys = rw (all_typed-append t n xs ys)
    (and_assoc (is_typed t n (plain_value x)) (all_typed t n (listed (plain_list xs)))
    (all_typed t n (listed (plain_list ys))))
