-- The proof of the laws that stand on `nothing_comes_back`.
use Rattle.argus_model.specs.History.{◌▹◌}
use Rattle.argus_model.proofs.{Counting.{gone_stays, good_stays, over_stays}, Lawful.lawful_orderly}
use Rattle.argus_model.proofs.what_counts.nothing_comes_back.Goals as goal

pub returns : goal.returns
returns g c = record {
  undone = λ meaning opening h e a l.
      gone_stays h e (lawful_orderly meaning opening h l.1) (lawful_orderly meaning opening (e ▹ h) l) a;
  for_good = λ meaning opening h e a l.
      good_stays h e (lawful_orderly meaning opening h l.1) (lawful_orderly meaning opening (e ▹ h) l) a;
  over = λ meaning opening h e a l. over_stays h e (lawful_orderly meaning opening (e ▹ h) l) a;
}
