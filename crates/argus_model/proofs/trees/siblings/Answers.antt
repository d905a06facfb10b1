-- The proof of the laws that stand on `siblings`.
use Rattle.argus_model.proofs.{Live.{contains_siblings, siblings_live}, Siblings.{siblings_increase, under_siblings}}
use Rattle.argus_model.proofs.trees.siblings.Goals as goal

pub returns : goal.returns
returns g c = record {
  who = λ meaning opening h a x. contains_siblings h a x;
  may_be_aborted = λ meaning opening h a. siblings_live h a;
  in_order = siblings_increase;
  under = under_siblings;
}
