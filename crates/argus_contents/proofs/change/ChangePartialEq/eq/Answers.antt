-- The test tells where two changes say the same.
use Rattle.argus_contents.specs.{Decided.change_decided, Change.plain_change}
use Rattle.argus_contents.proofs.change.ChangePartialEq.eq.Goals as goal

pub returns : goal.returns
returns c = rw c.is_same.ensures (change_decided (plain_change c.args.self.now) (plain_change c.args.other.now))
