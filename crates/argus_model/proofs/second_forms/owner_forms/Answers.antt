-- The proof of the laws that stand on `owner_forms`.
use Rattle.std.proofs.Common.{sym}
use Rattle.argus_model.proofs.{Lawful.lawful_orderly, Live.{child_is, stands_is_live}, Owner.owner_is}
use Rattle.argus_model.proofs.second_forms.owner_forms.Goals as goal

pub returns : goal.returns
returns g c = record {
  owner = λ meaning opening h a l. owner_is h (lawful_orderly meaning opening h l) a;
  live = λ meaning opening h a l n. sym (stands_is_live h (lawful_orderly meaning opening h l) a n);
  child = λ meaning opening h a l. sym (child_is h (lawful_orderly meaning opening h l) a);
}
