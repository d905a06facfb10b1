-- The proof of the law that stands on `history_is_lawful`.
use Rattle.argus_journal.proofs.Legal.{lawful}
use Rattle.argus_journal.proofs.laws.history_is_lawful.Goals as goal

pub returns : goal.returns
returns c = lawful
