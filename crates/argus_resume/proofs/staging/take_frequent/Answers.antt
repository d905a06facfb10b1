-- The line of a frequent entry is the first one of the text.
use Rattle.std.proofs.{Common.{[], ap, arith, subst, sym, ◌++◌, ◌∙◌, ◌∷◌}, lemmas.Result.err_from_is_err_and}
use Rattle.argus_entries.specs.{Call.plain_call, EntrySpelling.entry_spelling, Reply.plain_reply}
use Rattle.argus_journal.specs.JournalView.{JournalView}
use Rattle.argus_resume.specs.{FrontLine.{HasFrontLine, IsFrontError, entry_with}, JournalText.journal_text}
use Rattle.argus_resume.specs.Stage.{journal_taken, taken_by}
use Rattle.argus_resume.proofs.{FrontLines.{line_error, line_first, line_taken}, Texts.line_text}
use Rattle.argus_resume.proofs.staging.take_frequent.Goals as goal

pub returns-in_err-take_call-clause-fault : goal.returns-in_err-take_call-clause-fault
returns-in_err-take_call-clause-fault c =
    let p = err_from_is_err_and c.from_residual.result c.from_residual.ensures.1 in
    let journal = taken_by c.in-Entries.entries in
    let e = entry_with (plain_call c.in-Some.call) (plain_reply c.in-Some.reply) in
    let text = c.args.text.now in
    let rest = c.in-Some.rest.now in
    rw (p.1, p.2) (subst (λ (j : JournalView). IsFrontError c.in_err-take_call.field-0.0 j text)
    (ap journal_taken (sym c.in-Entries.is)) (line_error journal e text rest c.in_err-take_call.field-0.0
    (omega (arith, c.next_number.type_inv, c.next_number.ensures))
    (subst (λ n. HasFrontLine n e text rest) c.next_number.ensures c.in-Some.ensures) c.in_err-take_call.ensures.fault))

pub returns-clause-some : goal.returns-clause-some
returns-clause-some c =
    let e = entry_with (plain_call c.in-Some.call) (plain_reply c.in-Some.reply) in
    line_first c.next_number.result e c.args.text.now c.in-Some.rest.now (omega (arith, c.next_number.type_inv))
    c.in-Some.ensures

pub returns-clause-text : goal.returns-clause-text
returns-clause-text c =
    let e = entry_with (plain_call c.in-Some.call) (plain_reply c.in-Some.reply) in
    let next = c.next_number.result in
    let new = taken_by c.take_call.new.entries in
    let longer = line_text (taken_by c.in-Entries.entries) new e (entry_spelling next e) c.in_ok-take_call.ensures.taken
    (ap (λ n. entry_spelling n e) c.next_number.ensures) in
    longer ∙ ap (λ (j : JournalView). journal_text j ++ (entry_spelling next e ++ 10 ∷ []))
    (ap journal_taken (sym c.in-Entries.is)) ∙ ap (λ t. journal_text (journal_taken c.args.stage.now) ++ t)
    (sym (line_taken next e c.args.text.now c.in-Some.rest.now c.in-Some.ensures))
