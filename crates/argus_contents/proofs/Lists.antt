-- Lists of different length don't say the same, and lists whose values say the same one by one do.
use lib.Pointwise.{pointwise}
use Rattle.std.proofs.Common.{List, [], ap, false, length, refl, suc, ◌≡◌, ◌≢◌, ◌∷◌}
use Rattle.std.specs.Prelude.{nat_eq, ◌&&◌}
use Rattle.argus_contents.specs.{Same.{same_fields, same_ty, same_value, same_values}, Ty.{plain_fields, plain_ty}}
use Rattle.argus_contents.specs.{Value.{listed, plain_list, plain_value}, declared.name.Name.Name, declared.ty.Ty.Ty}
use Rattle.argus_contents.specs.declared.value.Value.{Value}
use Rattle.argus_contents.proofs.Types.{and_false}

pub other_length : (vs ws : List Value) → length vs ≢ length ws
    → same_values (listed (plain_list vs)) (listed (plain_list ws)) ≡ false
other_length [] [] n = absurd (n refl)
other_length [] (w ∷ ws) n = refl
other_length (v ∷ vs) [] n = refl
other_length (v ∷ vs) (w ∷ ws) n =
    rw (other_length vs ws (λ e. n (ap suc e))) (and_false (same_value (plain_value v) (plain_value w)))

pub other_names : (fs gs : List (Name × Ty)) → length fs ≢ length gs → same_fields (plain_fields fs) (plain_fields gs)
    ≡ false
other_names [] [] n = absurd (n refl)
other_names [] (g ∷ gs) n = refl
other_names (f ∷ fs) [] n = refl
other_names (f ∷ fs) (g ∷ gs) n =
    rw (other_names fs gs (λ e. n (ap suc e)), and_false (same_ty (plain_ty f.1) (plain_ty g.1)))
    (and_false (pointwise nat_eq f.0 g.0))

pub one_by_one : (vs ws : List Value) → pointwise (λ v w. same_value (plain_value v) (plain_value w)) vs ws
    ≡ same_values (listed (plain_list vs)) (listed (plain_list ws))
one_by_one [] [] = refl
one_by_one [] (w ∷ ws) = refl
one_by_one (v ∷ vs) [] = refl
one_by_one (v ∷ vs) (w ∷ ws) = ap (λ b. same_value (plain_value v) (plain_value w) && b) (one_by_one vs ws)
