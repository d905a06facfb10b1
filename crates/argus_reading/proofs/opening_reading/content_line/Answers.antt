-- The text is neither `absent` nor a content.
use Rattle.std.proofs.lemmas.Slice.Eq.{bytes_eq-Decides}
use Rattle.std.specs.Prelude.{codes}
use Rattle.argus_contents.specs.Content.{plain_content}
use Rattle.argus_reading.proofs.{OpeningParts.{content_left, content_stops}, Lacks.passed_on}
use Rattle.argus_reading.proofs.opening_reading.content_line.Goals as goal

pub returns-in_err-content-clause-stops : goal.returns-in_err-content-clause-stops
returns-in_err-content-clause-stops c =
    passed_on c.from_residual.result c.in_err-content.field-0.0 _ _ c.from_residual.ensures.1
    (λ left s f. content_stops c.args.text.now left (λ e. let t = (bytes_eq-Decides c.args.text.now (codes "absent")).1
    e in cc) s f) c.in_err-content.ensures.stops

pub returns-then-rest-gt0-clause-stops : goal.returns-then-rest-gt0-clause-stops
returns-then-rest-gt0-clause-stops c = λ f.
    content_left c.args.text.now (plain_content c.in_ok-content.content) c.in_ok-content.rest.now
    (λ e. let t = (bytes_eq-Decides c.args.text.now (codes "absent")).1 e in cc)
    c.in_ok-content.ensures.read c.if-rest-gt0.true f
