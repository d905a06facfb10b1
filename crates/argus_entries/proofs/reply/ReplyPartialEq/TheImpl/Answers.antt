-- An answer that tells where two replies say the same is the test's.
use Rattle.argus_entries.specs.{Reply.plain_reply, Decided.reply_answered}
use Rattle.argus_entries.proofs.reply.ReplyPartialEq.TheImpl.Goals as goal

pub eq-tells : goal.eq-tells
eq-tells c = reply_answered c.result (plain_reply c.args.self.now) (plain_reply c.args.other.now) c.ensures
