-- A text begins with one form at most.
use Rattle.std.proofs.Common.{[], ◌++◌, ap}
use Rattle.argus_texts.proofs.Contents.{one_content}
use Rattle.argus_texts.proofs.laws.content_texts_are_unambiguous.Goals as goal

pub returns : goal.returns
returns c = λ k v u w g e. (one_content k v u [] [] w g (ap (λ x. x ++ []) e)).0
