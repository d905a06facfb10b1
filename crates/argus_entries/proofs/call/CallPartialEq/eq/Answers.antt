-- The test tells where two calls say the same.
use Rattle.argus_entries.specs.{Call.plain_call, Decided.call_decided}
use Rattle.argus_entries.proofs.call.CallPartialEq.eq.Goals as goal

pub returns : goal.returns
returns c = rw c.is_same.ensures (call_decided (plain_call c.args.self.now) (plain_call c.args.other.now))
