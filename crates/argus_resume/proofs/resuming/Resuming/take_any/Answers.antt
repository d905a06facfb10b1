-- The first line, up to its line feed.
use Rattle.std.proofs.Common.{List, ap, drop, subst, sym, take, ℕ, ◌+◌, ◌++◌, ◌∙◌}
use Rattle.argus_journal.specs.JournalView.{JournalView}
use Rattle.argus_resume.specs.{JournalText.journal_text, FrontLine.IsFrontError}
use Rattle.argus_resume.proofs.{Feeds.{feed_there, first_line, none_there}, FrontLines.{error_ends, text_error}}
use Rattle.argus_resume.proofs.resuming.Resuming.take_any.Goals as goal

pub returns-in_default-clause-end : goal.returns-in_default-clause-end
returns-in_default-clause-end c = (c.requires, none_there c.args.text.now (sym c.in_default.ensures))

pub returns-in-Ok-clause-taken : goal.returns-in-Ok-clause-taken
returns-in-Ok-clause-taken c =
    let f = feed_there c.args.text.now c.in-Some.length (sym c.in-Some.ensures) in (
      first_line c.args.text.now c.in-Some.length f,
      c.in-Ok.ensures.text ∙ ap (λ (t : List ℕ). journal_text c.args.self.now ++ t) (sym f.line),
    )

pub returns-in-Err-clause-end : goal.returns-in-Err-clause-end
returns-in-Err-clause-end c =
    let text = c.args.text.now in
    let f = feed_there text c.in-Some.length (sym c.in-Some.ensures) in
    let line = take c.in-Some.length text in
    rw (c.end_of_error.ensures) (error_ends c.take_line.new.self text c.in-Err.error
    (subst (λ (j : JournalView). IsFrontError c.in-Err.error j text) (sym c.in-Err.ensures.err)
    (text_error c.args.self.now text line (drop (c.in-Some.length + 1) text) c.in-Err.error f.split f.none
    c.in-Err.ensures.fault)))
