-- The test tells where the entry's reply is the receipt's.
use Rattle.argus_entries.specs.{Decided.reply_answered, Reply.plain_reply}
use Rattle.argus_sharing.proofs.checking.has_reply.Goals as goal

pub returns : goal.returns
returns c = reply_answered c.eq.result (plain_reply c.args.entry.now.reply) (plain_reply c.args.receipt.now.reply)
    c.eq.ensures
