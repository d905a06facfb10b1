-- Lists of other lengths don't say the same.
use Rattle.std.proofs.Common.{sym}
use Rattle.argus_contents.proofs.Lists.{other_length}
use Rattle.argus_contents.proofs.value.+same.Goals as goal

pub are_same-returns-then-a-b : goal.are_same-returns-then-a-b
are_same-returns-then-a-b t c = sym (other_length c.args.a.now c.args.b.now c.if-a-b.true)
