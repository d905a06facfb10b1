-- What a run comes to.
use Rattle.std.specs.Prelude.{Bool, IfOk, Result, true, ◌≡◌}

-- An answer with the state after it; or nothing, if the next reply doesn't fit.
pub data RunOutcome (S X : Type 0) : Type 0 where
  finished : X → S → RunOutcome S X
  mismatched : RunOutcome S X

infixl 10 ◌>>=◌
-- one thing, and then another that depends on its answer
abbrev pub ◌>>=◌ : {S X Y : Type 0} → RunOutcome S X → (X → S → RunOutcome S Y) → RunOutcome S Y
(finished x s) >>= f = f x s
mismatched >>= f = mismatched

-- If the call returns, the run finishes with this answer, in this state. Of replies that no state
-- determines it says nothing.
abbrev pub Finishes : {S T E X : Type 0} → Bool → Result T E → (T → X) → RunOutcome S X → S → Type 0
Finishes is_determined result answer run new =
    IfOk result (λ t. is_determined ≡ true → run ≡ finished (answer t) new)
