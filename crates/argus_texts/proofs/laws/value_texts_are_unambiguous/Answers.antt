-- A text begins with one form at most.
use Rattle.std.proofs.Common.{[], ◌++◌, ap}
use Rattle.argus_texts.proofs.Forms.{one_form, value_ends}
use Rattle.argus_texts.proofs.laws.value_texts_are_unambiguous.Goals as goal

pub returns : goal.returns
returns c = λ k v u w g e. (one_form k v u [] [] w g (value_ends v [] tt) (value_ends u [] tt) (ap (λ x. x ++ []) e)).0
