-- The proof of the laws that stand on `owners`.
use Rattle.argus_model.proofs.Counting.{owner_when_committed, owner_when_doomed, owner_when_live, owner_when_top}
use Rattle.argus_model.proofs.Lawful.{lawful_orderly}
use Rattle.argus_model.proofs.what_counts.owners.Goals as goal

pub returns : goal.returns
returns g c = record {
  doomed = λ meaning opening h a l. owner_when_doomed h (lawful_orderly meaning opening h l) a;
  live = λ meaning opening h a l. owner_when_live h (lawful_orderly meaning opening h l) a;
  subaction = λ meaning opening h a l. owner_when_committed h (lawful_orderly meaning opening h l) a;
  topaction = λ meaning opening h a l. owner_when_top h (lawful_orderly meaning opening h l) a;
}
