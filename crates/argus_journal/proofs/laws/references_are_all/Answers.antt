-- The proof of the law that stands on `references_are_all`.
use Rattle.argus_journal.proofs.References.{listed_in, occurring_in}
use Rattle.argus_journal.proofs.laws.references_are_all.Goals as goal

pub returns : goal.returns
returns c = λ content r. (listed_in content r, occurring_in content r)
