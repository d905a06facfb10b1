-- An answer that tells where two calls say the same is the test's.
use Rattle.argus_entries.specs.{Call.plain_call, Decided.call_answered}
use Rattle.argus_entries.proofs.call.CallPartialEq.TheImpl.Goals as goal

pub eq-tells : goal.eq-tells
eq-tells c = call_answered c.result (plain_call c.args.self.now) (plain_call c.args.other.now) c.ensures
