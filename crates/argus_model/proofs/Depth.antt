-- The depth that is read off the rows is that of the lineage.
use Rattle.std.proofs.lemmas.Bool.Decides.{nat_tests}
use Rattle.std.proofs.Common.{ℕ, inr, ◌+◌, ◌-◌, ◌∷◌, ◌≡◌, Bool, List, [], arith, length, refl, true}
use Rattle.std.specs.Prelude.{◌⊎◌}
use Rattle.argus_model.specs.{Ancestors.lineage, Event.{Began, origin_parent}, Status.{Status, is_begun}}
use Rattle.argus_model.specs.{History.{History, Opened, folded, ◌▹◌}, Rows.{Row, depth_at, mark, rows}}
use Rattle.argus_model.specs.OwnerSteps.{stands}
use Rattle.argus_model.proofs.{Live.{is_begun_from, is_begun_parts}, Standing.{Orderly, stands_begun, stands_unfolded}}
use Rattle.argus_model.proofs.Rows.{length-mark, rows_length}

depth_at-mark : (n : ℕ) (which : ℕ → Bool) (s : Status) (rs : List Row) (a : ℕ)
    → depth_at n (mark n which s rs) a ≡ depth_at n rs a
depth_at-mark n which s [] a = refl
depth_at-mark n which s (r ∷ rs) a =
    grind (arith, nat_tests, length-mark, depth_at-mark n which s rs, depth_at-mark n which s rs a)

-- the base, or an action that has begun
abbrev IsKnown : {V : Type 0} → History V → ℕ → Type 0
IsKnown h a = (a ≡ 0) ⊎ (is_begun h a ≡ true)

stands_known : {V : Type 0} (h : History V) (a : ℕ) → stands h a ≡ true → IsKnown h a
stands_known h a l = grind (arith, nat_tests, is_begun_from h a, stands_unfolded h a, stands_begun h a l)

depth_up : {V : Type 0} (h : History V) → Orderly h → (a : ℕ) → IsKnown h a
    → depth_at (folded h) (rows h) a + 1 ≡ length (lineage h a)
depth_up {V} (Opened n) w a k = grind (arith, nat_tests, is_begun_parts)
depth_up (Began from ▹ h) w a k =
    grind (
      arith,
      nat_tests,
      rows_length h,
      depth_up h w.1 (origin_parent from) (stands_known h (origin_parent from) w.0),
      stands_known,
      depth_up h w.1 a,
      is_begun_parts,
      is_begun_from,
    )
depth_up (_ ▹ h) w a k = grind (arith, nat_tests, depth_at-mark, depth_up h w.1 a k)

-- the depth that the rows give an action is the length of its lineage without the base
pub depth_is : {V : Type 0} (h : History V) → Orderly h → (a : ℕ) → is_begun h a ≡ true
    → depth_at (folded h) (rows h) a ≡ length (lineage h a) - 1
depth_is h w a k = let e = depth_up h w a (inr k) in omega (arith, e)
