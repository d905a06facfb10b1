-- What one more entry leaves, by whether it writes the object and counts.
use Rattle.std.proofs.{Common.{ap, false, sym, true, ◌∙◌, arith}, lemmas.Bool.Decides.nat_tests}
use Rattle.argus_entries.specs.Entry.{plain_entry}
use Rattle.argus_journal.specs.{Entries.content_after_call, Journal.{entries_of, opening_of}}
use Rattle.argus_journal.proofs.Replay.{replayed_keeps}
use Rattle.argus_audit.proofs.{Places.first_legal, Visits.{unwritten_at, written_at}}
use Rattle.argus_audit.proofs.visiting.visit.Goals as goal

pub returns-in_default-writer_of : goal.returns-in_default-writer_of
returns-in_default-writer_of c =
    let journal = c.args.journal.now in
    c.requires.content
    ∙ sym (unwritten_at (opening_of journal) (entries_of journal) c.args.reader c.args.o.0 c.args.place
    (plain_entry c.in-Some.entry.now) (sym c.in-Some.ensures) (sym c.in_default-writer_of.ensures))

pub write-requires : goal.write-requires
write-requires c = grind (arith, nat_tests, replayed_keeps, first_legal)

pub returns-in_ok-write : goal.returns-in_ok-write
returns-in_ok-write c =
    let journal = c.args.journal.now in
    let e = plain_entry c.in-Some.entry.now in
    c.in_ok-write.ensures ∙ ap (content_after_call e.call) c.requires.content
    ∙ sym (written_at (opening_of journal) (entries_of journal) c.args.reader c.args.o.0 c.args.place e
    c.in-Some-writer_of.a true (sym c.in-Some.ensures) (sym c.in-Some-writer_of.ensures)
    (sym c.if-counts.true ∙ c.counts.ensures))

pub returns-else-counts : goal.returns-else-counts
returns-else-counts c =
    let journal = c.args.journal.now in
    c.requires.content
    ∙ sym (written_at (opening_of journal) (entries_of journal) c.args.reader c.args.o.0 c.args.place
    (plain_entry c.in-Some.entry.now) c.in-Some-writer_of.a false (sym c.in-Some.ensures)
    (sym c.in-Some-writer_of.ensures) (sym c.if-counts.false ∙ c.counts.ensures))
