-- The proof of the law that stands on `what_makes_a_fold`.
use Rattle.argus_journal.proofs.Folded.{fold_made}
use Rattle.argus_journal.proofs.folding.what_makes_a_fold.Goals as goal

pub returns : goal.returns
returns c = fold_made
