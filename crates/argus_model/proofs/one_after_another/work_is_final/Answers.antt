-- The proof of the laws that stand on `work_is_final`.
use Rattle.argus_model.proofs.Commits.{over_is_final}
use Rattle.argus_model.proofs.one_after_another.work_is_final.Goals as goal

pub returns : goal.returns
returns g c = over_is_final
