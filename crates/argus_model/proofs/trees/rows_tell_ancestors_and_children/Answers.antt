-- The proof of the laws that stand on `rows_tell_ancestors_and_children`.
use Rattle.argus_model.proofs.{Depth.depth_is, Lawful.lawful_orderly, Rows.{has_live_row_is, is_above_exactly}}
use Rattle.argus_model.proofs.trees.rows_tell_ancestors_and_children.Goals as goal

pub returns : goal.returns
returns g c = record {
  ancestor = λ meaning opening h x a l. is_above_exactly h (lawful_orderly meaning opening h l) x a;
  depth = λ meaning opening h a l. depth_is h (lawful_orderly meaning opening h l) a;
  child = λ meaning opening h a l. has_live_row_is h (lawful_orderly meaning opening h l) a;
}
