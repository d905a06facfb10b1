-- An answer that tells where two changes say the same is the test's.
use Rattle.argus_contents.specs.{Decided.change_answered, Change.plain_change}
use Rattle.argus_contents.proofs.change.ChangePartialEq.TheImpl.Goals as goal

pub eq-tells : goal.eq-tells
eq-tells c = change_answered c.result (plain_change c.args.self.now) (plain_change c.args.other.now) c.ensures
