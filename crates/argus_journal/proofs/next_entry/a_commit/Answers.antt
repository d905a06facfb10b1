-- The proof of the laws that stand on `a_commit`.
use Rattle.argus_journal.proofs.NextEntry.{commit_base, commit_live, commit_readers, commit_sees, commit_writers}
use Rattle.argus_journal.proofs.next_entry.a_commit.Goals as goal

pub returns : goal.returns
returns c = record {
  live = λ s e j a x l q. commit_live s e j a l q x;
  readers = λ s e j a o l q. commit_readers s e j a l q o;
  writers = λ s e j a o l q. commit_writers s e j a l q o;
  sees = λ s e j a x o l q. commit_sees s e j a l q x o;
  base = λ s e j a o l q. commit_base s e j a l q o;
}
