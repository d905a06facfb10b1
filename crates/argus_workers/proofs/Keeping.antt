-- What the calls of a run keep of the state.
use Rattle.std.proofs.Common.{List, ◌∷◌, ◌≡◌}
use Rattle.argus_sharing.specs.Receipt.{PlainReceipt}
use Rattle.argus_workers.specs.RunCheck.{CheckState, with_call}

-- a relation of the state before calls and the state after them, which each call brings one further
pub record Keeping (keeps : CheckState → CheckState → Type 0) : Type 0 where
  pub same : (s : CheckState) → keeps s s
  pub on : (s t u : CheckState) → keeps s t → keeps t u → keeps s u
  pub told : (r : PlainReceipt) (rest : List PlainReceipt) (s : CheckState) → s.left ≡ r ∷ rest
      → keeps s (with_call r rest s)
