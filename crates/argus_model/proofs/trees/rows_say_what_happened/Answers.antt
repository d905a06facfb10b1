-- The proof of the laws that stand on `rows_say_what_happened`.
use Rattle.argus_model.proofs.{Lawful.lawful_orderly, Rows.{creator_of_origin, parent_of_origin, row_is, rows_length}}
use Rattle.argus_model.proofs.trees.rows_say_what_happened.Goals as goal

pub returns : goal.returns
returns g c = record {
  row = λ meaning opening h a l. row_is h (lawful_orderly meaning opening h l) a;
  count = rows_length;
  parent = parent_of_origin;
  creator = creator_of_origin;
}
