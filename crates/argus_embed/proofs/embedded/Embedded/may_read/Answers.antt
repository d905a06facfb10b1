use Rattle.argus_embed.proofs.Granted.{yes_where}
use Rattle.argus_journal.specs.{Call.test_read, JournalView.reply_to}
use Rattle.argus_embed.proofs.embedded.Embedded.may_read.Goals as goal

pub returns : goal.returns
returns c =
    rw (← c.self.view_is)
    (yes_where c.can_read.result (reply_to c.self.inside.guardian (test_read c.args.a.0 c.args.o.0)) c.can_read.ensures)
