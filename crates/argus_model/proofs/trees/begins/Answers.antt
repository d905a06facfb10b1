-- The proof of the laws that stand on `begins`.
use Rattle.argus_model.proofs.Begins.{begin_names_creator, begin_names_parent, its_begin}
use Rattle.argus_model.proofs.trees.begins.Goals as goal

pub returns : goal.returns
returns g c = record { each = its_begin; parent = begin_names_parent; creator = begin_names_creator }
