use Rattle.argus_embed.proofs.Granted.{yes_where}
use Rattle.argus_journal.specs.{Call.test_write, JournalView.reply_to}
use Rattle.argus_embed.proofs.embedded.Embedded.may_write.Goals as goal

pub returns : goal.returns
returns c =
    rw (← c.self.view_is) (yes_where c.can_write.result (reply_to c.self.inside.guardian
    (test_write c.args.a.0 c.args.o.0)) c.can_write.ensures)
