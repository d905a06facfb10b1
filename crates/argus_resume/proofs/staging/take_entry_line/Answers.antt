-- The listing is longer by the entry's line.
use Rattle.std.proofs.Common.{ap, sym, ◌∙◌, ◌≡◌}
use Rattle.argus_entries.specs.{Entry.plain_entry, EntrySpelling.entry_spelling}
use Rattle.argus_journal.specs.JournalView.{JournalView, with_entry}
use Rattle.argus_resume.specs.Stage.{journal_taken, opened_alone, opening_read, taken_by}
use Rattle.argus_resume.proofs.{Stages.on_ok, Texts.line_text}
use Rattle.argus_resume.proofs.staging.take_entry_line.Goals as goal

pub returns-in-Entries-clause-text : goal.returns-in-Entries-clause-text
returns-in-Entries-clause-text c =
    let journal = journal_taken c.args.stage.now in
    let e = plain_entry c.in_ok-entry.entry in
    let old : taken_by c.in-Entries.entries ≡ journal = ap journal_taken (sym c.in-Entries.is) in
    on_ok c.take_further.result c.take_further.ensures.taken
    (λ made. line_text journal (taken_by c.take_further.new.entries) e c.args.line.now
    (made ∙ ap (λ (k : JournalView). with_entry k e) old)
    (c.in_ok-entry.ensures.read.is ∙ ap (λ n. entry_spelling n e) c.next_number.ensures))

pub returns-in_ok-entries-in-Opening-clause-text : goal.returns-in_ok-entries-in-Opening-clause-text
returns-in_ok-entries-in-Opening-clause-text c =
    let journal = journal_taken c.args.stage.now in
    let e = plain_entry c.in_ok-entry.entry in
    let old : opened_alone (opening_read c.in-Opening.lines) ≡ journal = ap journal_taken (sym c.in-Opening.is) in
    line_text journal (taken_by c.in_ok-entries-in-Opening.entries) e c.args.line.now
    (c.in_ok-entries-in-Opening.ensures.taken ∙ ap (λ (k : JournalView). with_entry k e) old)
    (c.in_ok-entry.ensures.read.is ∙ ap (λ n. entry_spelling n e) c.next_number.ensures)
