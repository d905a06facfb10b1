-- An answer that tells where two contents say the same is the test's.
use Rattle.argus_contents.specs.{Decided.content_answered, Content.plain_content}
use Rattle.argus_contents.proofs.content.ContentPartialEq.TheImpl.Goals as goal

pub eq-tells : goal.eq-tells
eq-tells c = content_answered c.result (plain_content c.args.self.now) (plain_content c.args.other.now) c.ensures
