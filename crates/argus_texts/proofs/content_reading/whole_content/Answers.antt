-- The fault of the whole text.
use Rattle.argus_contents.specs.Content.{plain_content}
use Rattle.argus_texts.specs.{Fault.IsContentText, Languages.Contents}
use Rattle.argus_texts.proofs.{Contents.{contents_clear, content_texts}, Faults.{stopped, left_behind}, Exits.passed_on}
use Rattle.argus_texts.proofs.content_reading.whole_content.Goals as goal

pub returns-in_err-content-clause-stops : goal.returns-in_err-content-clause-stops
returns-in_err-content-clause-stops c =
    passed_on c.from_residual.result c.in_err-content.field-0.0 _ _ c.from_residual.ensures.1
    (λ left s. stopped (Contents 16) IsContentText (contents_clear 16) content_texts c.args.text.now left s)
    c.in_err-content.ensures.stops

pub returns-then-rest-gt0-clause-stops : goal.returns-then-rest-gt0-clause-stops
returns-then-rest-gt0-clause-stops c =
    left_behind (Contents 16) IsContentText (contents_clear 16) content_texts (plain_content c.in_ok-content.content)
    c.args.text.now c.in_ok-content.rest.now c.in_ok-content.ensures.read c.if-rest-gt0.true
