-- How many names a list has.
use Rattle.std.proofs.Common.{refl}
use Rattle.argus_contents.proofs.Types.{length-names}
use Rattle.argus_contents.proofs.typing.have_number.Goals as goal

pub returns : goal.returns
returns c = rw (length-names c.args.names.now) refl
