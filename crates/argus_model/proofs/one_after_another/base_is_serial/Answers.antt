-- The proof of the laws that stand on `base_is_serial`.
use Rattle.argus_model.proofs.Theorems.{serial_content}
use Rattle.argus_model.proofs.one_after_another.base_is_serial.Goals as goal

pub returns : goal.returns
returns g c = serial_content
