-- The test tells where two contents say the same.
use Rattle.argus_contents.specs.{Decided.content_decided, Content.plain_content}
use Rattle.argus_contents.proofs.content.ContentPartialEq.eq.Goals as goal

pub returns : goal.returns
returns c = rw c.is_same.ensures (content_decided (plain_content c.args.self.now) (plain_content c.args.other.now))
