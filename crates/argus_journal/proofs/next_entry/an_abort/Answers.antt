-- The proof of the laws that stand on `an_abort`.
use Rattle.argus_journal.proofs.NextEntry.{abort_base, abort_live, abort_readers, abort_sees, abort_writers}
use Rattle.argus_journal.proofs.NextEntry.{siblings_abort}
use Rattle.argus_journal.proofs.next_entry.an_abort.Goals as goal

pub returns : goal.returns
returns c = record {
  siblings = siblings_abort;
  live = λ s e j actions x l q. abort_live s e j actions l q x;
  readers = λ s e j actions o l q. abort_readers s e j actions l q o;
  writers = λ s e j actions o l q. abort_writers s e j actions l q o;
  sees = λ s e j actions x o l q. abort_sees s e j actions l q x o;
  base = λ s e j actions o l q. abort_base s e j actions l q o;
}
