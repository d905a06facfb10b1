-- The words and the reply, one behind the other.
use Rattle.std.proofs.{Common.{codes, string_bytes}, lemmas.List.append_assoc}
use Rattle.argus_journal.specs.{EntrySpelling.reply_spelling, Reply.plain_reply}
use Rattle.argus_cli.proofs.faulty_line.append_line_fault.Goals as goal

pub returns-in_ok-write_reply-in-NotTheReply : goal.returns-in_ok-write_reply-in-NotTheReply
returns-in_ok-write_reply-in-NotTheReply c =
    rw (c.in-NotTheReply.is, c.in_ok-write_reply-in-NotTheReply.ensures.written, c.in_ok-append-in-NotTheReply.ensures)
    (append_assoc (string_bytes c.args.text.now) (codes "NotTheReply: ") (reply_spelling
    (plain_reply c.in-NotTheReply.reply)))
