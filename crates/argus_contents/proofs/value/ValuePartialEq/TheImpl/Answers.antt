-- An answer that tells where two values say the same is the test's.
use Rattle.argus_contents.specs.{Decided.value_answered, Value.plain_value}
use Rattle.argus_contents.proofs.value.ValuePartialEq.TheImpl.Goals as goal

pub eq-tells : goal.eq-tells
eq-tells c = value_answered c.result (plain_value c.args.self.now) (plain_value c.args.other.now) c.ensures
