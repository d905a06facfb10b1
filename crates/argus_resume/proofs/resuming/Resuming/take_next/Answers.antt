-- An error of the line at the front ends the taking.
use Rattle.std.proofs.Common.{subst, sym}
use Rattle.argus_journal.specs.JournalView.{JournalView}
use Rattle.argus_resume.specs.{FrontLine.IsFrontError, Stage.journal_taken}
use Rattle.argus_resume.proofs.FrontLines.{error_ends}
use Rattle.argus_resume.proofs.resuming.Resuming.take_next.Goals as goal

pub returns-in-Err-clause-end : goal.returns-in-Err-clause-end
returns-in-Err-clause-end c =
    let text = c.args.text.now in
    rw (c.end_of_error.ensures) (error_ends (journal_taken c.take_frequent.new.stage) text c.in-Err.error
    (subst (λ (j : JournalView). IsFrontError c.in-Err.error j text) (sym c.in-Err.ensures.err) c.in-Err.ensures.fault))
