-- A text begins with one form at most.
use Rattle.std.proofs.Common.{[], ◌++◌, ap}
use Rattle.argus_texts.proofs.ShapeForms.{one_shape}
use Rattle.argus_texts.proofs.laws.shape_texts_are_unambiguous.Goals as goal

pub returns : goal.returns
returns c = λ s t g h e. (one_shape s t [] [] g h (ap (λ x. x ++ []) e)).0
