-- What a stop says, and what a refusal says, weakened.
use Rattle.std.proofs.{Common.{IfErr, Result, ℕ, ◌≡◌}, lemmas.Result.err_from_is_err_and}
use Rattle.std.specs.Prelude.{IsErrAnd}
use Rattle.argus_texts.specs.{declared.{stop.Stop.Stop, unread.Unread.Unread}, Language.OnLeft, ShapeLanguages.OnNoForm}
use Rattle.argus_texts.specs.declared.stop.Stop.TheVariants as stop
use Rattle.argus_texts.specs.declared.unread.Unread.TheVariants as unread

pub passed : (e : Stop) (P Q : ℕ → Type 0) → ((left : ℕ) → P left → Q left) → OnLeft e P → OnLeft e Q
passed (stop.Left left) P Q f h = f left h
passed stop.Memory P Q f h = tt

pub refused : (e : Unread) (P Q : Type 0) → (P → Q) → OnNoForm e P → OnNoForm e Q
refused unread.NoForm P Q f h = f h
refused unread.Memory P Q f h = tt

-- the same of the error that a `?` returns
pub passed_on : {T : Type 0} (r : Result T Stop) (e : Stop) (P Q : ℕ → Type 0) → IsErrAnd r (λ y. y ≡ e)
    → ((left : ℕ) → P left → Q left) → OnLeft e P → IfErr r (λ y. OnLeft y Q)
passed_on r e P Q h f o = let p = err_from_is_err_and r h in rw (p.1, p.2) (passed e P Q f o)

pub refused_on : {T : Type 0} (r : Result T Unread) (e : Unread) (P Q : Type 0) → IsErrAnd r (λ y. y ≡ e)
    → (P → Q) → OnNoForm e P → IfErr r (λ y. OnNoForm y Q)
refused_on r e P Q h f o = let p = err_from_is_err_and r h in rw (p.1, p.2) (refused e P Q f o)
