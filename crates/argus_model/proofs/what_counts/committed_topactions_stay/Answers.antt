-- The proof of the laws that stand on `committed_topactions_stay`.
use Rattle.argus_model.proofs.{Counting.{tops-IsDistinct, tops_are, tops_stay}, Lawful.lawful_orderly}
use Rattle.argus_model.proofs.what_counts.committed_topactions_stay.Goals as goal

pub returns : goal.returns
returns g c = record {
  who = λ meaning opening h a l. tops_are h (lawful_orderly meaning opening h l) a;
  once = λ meaning opening h l. tops-IsDistinct h (lawful_orderly meaning opening h l);
  for_good = λ meaning opening h a l. tops_stay h (lawful_orderly meaning opening h l) a;
}
