-- All pieces of the line were appended.
use Rattle.std.{proofs.{Common.string_bytes, lemmas.Result.IfOk-equal}, specs.{Fmt.decimal, Prelude.codes}}
use Rattle.argus_entries.specs.{Call.plain_call, EntrySpelling.{call_spelling, reply_spelling}, Reply.plain_reply}
use Rattle.argus_entries.proofs.Pieces.{line}
use Rattle.argus_entries.proofs.entry_writing.append_entry.Goals as goal

pub returns-clause-written : goal.returns-clause-written
returns-clause-written c =
    let e = c.args.entry.now in
    IfOk-equal c.append_reply.result _ _ _ c.append_reply.ensures.written
    (line (string_bytes c.args.out.now) (string_bytes c.append_number.new.out) (string_bytes c.append.new.out)
    (string_bytes c.append_call.new.out) (string_bytes c.append-2.new.out)
    (decimal c.args.at) (codes " ") (call_spelling (plain_call e.call)) (codes " -> ")
    (reply_spelling (plain_reply e.reply))
    c.in_ok-append_number.ensures.written c.in_ok-append.ensures.written c.in_ok-append_call.ensures.written
    c.in_ok-append-2.ensures.written)
