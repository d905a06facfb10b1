-- The proof of the laws that stand on `owners_are_live`.
use Rattle.argus_model.proofs.{Counting.held_by_live, Lawful.lawful_orderly}
use Rattle.argus_model.proofs.what_counts.owners_are_live.Goals as goal

pub returns : goal.returns
returns g c = record {
  live = λ meaning opening h a x l k e. (held_by_live h (lawful_orderly meaning opening h l) a x k e).0;
  above = λ meaning opening h a x l k e. (held_by_live h (lawful_orderly meaning opening h l) a x k e).1;
}
