-- A number or the blank is missing, or something comes after: the text isn't a first line.
use Rattle.std.proofs.{Common.arith}
use Rattle.argus_reading.proofs.OpeningParts.{folded_between, folded_first, folded_left, folded_second, folded_whole}
use Rattle.argus_reading.proofs.Lacks.{passed_on}
use Rattle.argus_reading.proofs.opening_reading.folded_numbers.Goals as goal

pub returns-in_err-entries-clause-stops : goal.returns-in_err-entries-clause-stops
returns-in_err-entries-clause-stops c =
    passed_on c.from_residual.result c.in_err-entries.field-0.0 _ _ c.from_residual.ensures.1
    (λ left s f. folded_first c.args.text.now left s f) c.in_err-entries.ensures.stops

pub returns-in_err-rest-clause-stops : goal.returns-in_err-rest-clause-stops
returns-in_err-rest-clause-stops c =
    passed_on c.from_residual-in_err-rest.result c.in_err-rest.field-0.0 _ _ c.from_residual-in_err-rest.ensures.1
    (λ left s f. folded_between c.args.text.now c.in_ok-entries.entries c.in_ok-entries.rest.now
    c.in_ok-entries.ensures.read s.1 f) c.in_err-rest.ensures.stops

pub returns-in_err-actions-clause-stops : goal.returns-in_err-actions-clause-stops
returns-in_err-actions-clause-stops c = passed_on c.from_residual-in_err-actions.result c.in_err-actions.field-0.0 _ _
    c.from_residual-in_err-actions.ensures.1 (λ left s f. folded_second c.args.text.now c.in_ok-entries.entries
    c.in_ok-entries.rest.now c.in_ok-rest.rest.now left c.in_ok-entries.ensures.read c.in_ok-rest.ensures.read s f)
    c.in_err-actions.ensures.stops

pub returns-then-rest-gt0-clause-stops : goal.returns-then-rest-gt0-clause-stops
returns-then-rest-gt0-clause-stops c = λ f.
    folded_left c.args.text.now c.in_ok-entries.entries c.in_ok-actions.actions c.in_ok-entries.rest.now
    c.in_ok-rest.rest.now c.in_ok-actions.rest.now c.in_ok-entries.ensures.read c.in_ok-rest.ensures.read
    c.in_ok-actions.ensures.read c.if-rest-gt0.true f

pub returns-clause-read : goal.returns-clause-read
returns-clause-read c =
    folded_whole c.args.text.now c.in_ok-entries.entries c.in_ok-actions.actions c.in_ok-entries.rest.now
    c.in_ok-rest.rest.now c.in_ok-actions.rest.now c.in_ok-entries.ensures.read c.in_ok-rest.ensures.read
    c.in_ok-actions.ensures.read (omega arith)
