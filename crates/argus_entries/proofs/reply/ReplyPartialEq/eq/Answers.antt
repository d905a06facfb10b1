-- The test tells where two replies say the same.
use Rattle.argus_entries.specs.{Reply.plain_reply, Decided.reply_decided}
use Rattle.argus_entries.proofs.reply.ReplyPartialEq.eq.Goals as goal

pub returns : goal.returns
returns c = rw c.is_same.ensures (reply_decided (plain_reply c.args.self.now) (plain_reply c.args.other.now))
