-- The proof of the laws that stand on `an_access`.
use Rattle.argus_journal.proofs.NextEntry.{access_base, access_live, access_others_see, access_readers, access_sees}
use Rattle.argus_journal.proofs.NextEntry.{access_writers}
use Rattle.argus_journal.proofs.next_entry.an_access.Goals as goal

pub returns : goal.returns
returns c = record {
  live = λ s e j a i x l q. access_live s e j a i l q x;
  readers = λ s e j a i o l q. access_readers s e j a i l q o;
  writers = λ s e j a i o l q. access_writers s e j a i l q o;
  sees = λ s e j a i o l q. access_sees s e j a i l q o;
  others_see = λ s e j a i x o l q. access_others_see s e j a i l q x o;
  base = λ s e j a i o l q. access_base s e j a i l q o;
}
