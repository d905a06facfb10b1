-- The proof of the laws that stand on `a_begin`.
use Rattle.argus_journal.proofs.NextEntry.{begin_base, begin_live, begin_others_see, begin_readers, begin_writers}
use Rattle.argus_journal.proofs.NextEntry.{nested_sees, sub_sees, top_sees}
use Rattle.argus_journal.proofs.next_entry.a_begin.Goals as goal

pub returns : goal.returns
returns c = record {
  live = λ s e j from x l q. begin_live s e j from l q x;
  readers = λ s e j from o l q. begin_readers s e j from l q o;
  writers = λ s e j from o l q. begin_writers s e j from l q o;
  sub_sees = sub_sees;
  top_sees = top_sees;
  nested_sees = nested_sees;
  others_see = λ s e j from x o l q. begin_others_see s e j from l q x o;
  base = λ s e j from o l q. begin_base s e j from l q o;
}
