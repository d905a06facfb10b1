-- The proof of the laws that stand on `content_forms`.
use Rattle.argus_model.proofs.{Lawful.{lawful_orderly, lawful_steps}, Sees.{base_is, sees_is}}
use Rattle.argus_model.proofs.second_forms.content_forms.Goals as goal

pub returns : goal.returns
returns g c = record {
  sees = λ meaning opening h a o l. sees_is meaning opening h (lawful_orderly meaning opening h l) a o;
  base = λ meaning opening h o l. base_is meaning opening h (lawful_orderly meaning opening h l) o;
  lawful = lawful_steps;
}
