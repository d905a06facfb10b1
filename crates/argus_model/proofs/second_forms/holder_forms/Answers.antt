-- The proof of the laws that stand on `holder_forms`.
use Rattle.argus_model.proofs.{Holders.{contains_holders, may_read_is, may_write_is}, Lawful.lawful_orderly}
use Rattle.argus_model.proofs.NextHolders.{no_base_holder}
use Rattle.argus_model.proofs.second_forms.holder_forms.Goals as goal

pub returns : goal.returns
returns g c = record {
  holders = λ meaning opening h kind o x l. contains_holders kind h (lawful_orderly meaning opening h l) o x;
  base = no_base_holder;
  read = λ meaning opening h a o l. may_read_is meaning h (lawful_orderly meaning opening h l) a o;
  write = λ meaning opening h a o l. may_write_is meaning h (lawful_orderly meaning opening h l) a o;
}
