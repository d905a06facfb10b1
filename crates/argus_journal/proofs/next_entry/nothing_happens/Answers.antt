-- The proof of the laws that stand on `nothing_happens`.
use Rattle.argus_journal.proofs.NextEntry.{same_history}
use Rattle.argus_journal.proofs.next_entry.nothing_happens.Goals as goal

pub returns : goal.returns
returns c = same_history
