-- A text begins with one form at most.
use Rattle.std.proofs.Common.{[], ◌++◌, refl, sym, ap}
use Rattle.argus_texts.proofs.Forms.{one_form, value_ends}
use Rattle.argus_texts.proofs.laws.values_are_read_back.Goals as goal

pub returns : goal.returns
returns c = λ v w. (
  (λ at f. f.refused (record { value = v; within = w; is = refl })),
  (λ u g e. sym (one_form 16 v u [] [] w g (value_ends v [] tt) (value_ends u [] tt) (ap (λ x. x ++ []) e)).0),
)
