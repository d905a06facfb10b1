-- The proof of the laws that stand on `base_sees`.
use Rattle.argus_model.proofs.{Lawful.lawful_orderly, NextSees.sees_base}
use Rattle.argus_model.proofs.next_event.base_sees.Goals as goal

pub returns : goal.returns
returns g c = λ meaning opening h o l. sees_base meaning opening h (lawful_orderly meaning opening h l) o
