-- A text begins with one form at most.
use Rattle.std.proofs.Common.{[], ◌++◌, refl, sym, ap}
use Rattle.argus_texts.proofs.ShapeForms.{one_shape}
use Rattle.argus_texts.proofs.laws.shapes_are_read_back.Goals as goal

pub returns : goal.returns
returns c = λ s m. (
  record { shape = s; makeable = m; is = refl },
  (λ t n e. sym (one_shape s t [] [] m.named n.named (ap (λ x. x ++ []) e)).0),
)
