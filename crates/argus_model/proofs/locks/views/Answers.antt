-- The proof of the laws that stand on `views`.
use Rattle.argus_model.proofs.{Lawful.lawful_orderly, Sees.sees_same}
use Rattle.argus_model.proofs.locks.views.Goals as goal

pub returns : goal.returns
returns g c = λ meaning opening h x y o l. sees_same meaning opening h (lawful_orderly meaning opening h l) x y o
