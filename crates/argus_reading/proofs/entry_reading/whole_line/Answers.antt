-- The fault of the whole text.
use Rattle.argus_entries.specs.Entry.{plain_entry}
use Rattle.argus_reading.proofs.{Shaped.{line_shaped, no_line}, Whole.{line_lacks, line_left_behind, line_stopped}}
use Rattle.argus_reading.proofs.Lacks.{handed_over}
use Rattle.argus_reading.proofs.entry_reading.whole_line.Goals as goal

pub returns-in_err-number-clause-stops : goal.returns-in_err-number-clause-stops
returns-in_err-number-clause-stops c =
    handed_over c.from_residual.result c.in_err-number.field-0.0 _ _ _ _ c.from_residual.ensures.1
    (λ left s. no_line (line_stopped c.args.text.now left s.0) s.1) (λ left s. line_lacks c.args.text.now left s)
    c.in_err-number.ensures.stops

pub returns-then-rest-gt0-clause-stops : goal.returns-then-rest-gt0-clause-stops
returns-then-rest-gt0-clause-stops c =
    let read = c.in_ok-number.ensures.read in
    let entry = plain_entry c.in_ok-number.entry in
    no_line
    (line_left_behind (c.in_ok-number.number, (entry.call, entry.reply)) c.args.text.now c.in_ok-number.rest.now read
    c.if-rest-gt0.true) (line_shaped read)
