-- The test tells where two values say the same.
use Rattle.argus_contents.specs.{Decided.value_decided, Value.plain_value}
use Rattle.argus_contents.proofs.value.ValuePartialEq.eq.Goals as goal

pub returns : goal.returns
returns c = rw c.is_same.ensures (value_decided (plain_value c.args.self.now) (plain_value c.args.other.now))
