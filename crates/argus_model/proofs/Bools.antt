-- Laws of tests.
use Rattle.std.proofs.{Common.{Bool, arith, false, refl, sym, true, ℕ, ◌≡◌}, lemmas.Bool.{eq-eqb, eqb-true}}
use Rattle.std.specs.Prelude.{◌&&◌, ◌==◌, ◌||◌}

-- two tests are the same where each follows from the other
pub same_bool : (a b : Bool) → (a ≡ true → b ≡ true) → (b ≡ true → a ≡ true) → a ≡ b
same_bool true b f g = sym (f refl)
same_bool false true f g = g refl
same_bool false false f g = refl

-- an alternative that fails changes nothing
pub or_none : (a : Bool) → a ≡ (a || false)
or_none true = refl
or_none false = refl

-- equality of numbers goes both ways
pub eqb_sym : (a b : ℕ) → a == b ≡ b == a
eqb_sym a b =
    same_bool (a == b) (b == a) (λ e. eq-eqb b a (sym (eqb-true a b e))) (λ e. eq-eqb a b (sym (eqb-true b a e)))

-- a part that fails makes the whole fail
pub and_none : (b : Bool) → (b && false) ≡ false
and_none true = refl
and_none false = refl

-- a part that holds changes nothing
pub and_all : (b : Bool) → (b && true) ≡ b
and_all true = refl
and_all false = refl
