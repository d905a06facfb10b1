-- The proof of the laws that stand on `begun`.
use Rattle.argus_model.specs.History.{begun_actions}
use Rattle.argus_model.proofs.{Live.{begun_listed, begun_rising}, Numbers.increasing}
use Rattle.argus_model.proofs.trees.begun.Goals as goal

pub returns : goal.returns
returns g c = record {
  listed = begun_listed;
  in_order = λ h. increasing (begun_actions h) (begun_rising h);
}
