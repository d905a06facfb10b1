-- The number, the shape, the content or a blank is missing: the text isn't an object's line.
use Rattle.argus_contents.specs.Content.{plain_option}
use Rattle.argus_reading.proofs.OpeningParts.{object_between, object_blank, object_content, object_first, object_shape}
use Rattle.argus_reading.proofs.{OpeningParts.object_whole, Lacks.passed_on}
use Rattle.argus_reading.proofs.opening_reading.object_line.Goals as goal

pub returns-in_err-o-clause-stops : goal.returns-in_err-o-clause-stops
returns-in_err-o-clause-stops c = passed_on c.from_residual.result c.in_err-o.field-0.0 _ _ c.from_residual.ensures.1
    (λ left s f. object_first c.args.text.now left s f) c.in_err-o.ensures.stops

pub returns-in_err-rest-clause-stops : goal.returns-in_err-rest-clause-stops
returns-in_err-rest-clause-stops c =
    passed_on c.from_residual-in_err-rest.result c.in_err-rest.field-0.0 _ _ c.from_residual-in_err-rest.ensures.1
    (λ left s f. object_between c.args.text.now c.in_ok-o.o c.in_ok-o.rest.now c.in_ok-o.ensures.read s.1 f)
    c.in_err-rest.ensures.stops

pub returns-in_err-shape-clause-stops : goal.returns-in_err-shape-clause-stops
returns-in_err-shape-clause-stops c =
    passed_on c.from_residual-in_err-shape.result c.in_err-shape.field-0.0 _ _ c.from_residual-in_err-shape.ensures.1
    (λ left s f. object_shape c.args.text.now c.in_ok-o.o c.in_ok-o.rest.now c.in_ok-rest.rest.now
    c.in_ok-o.ensures.read c.in_ok-rest.ensures.read s f) c.in_err-shape.ensures.stops

pub returns-in_err-rest-2-clause-stops : goal.returns-in_err-rest-2-clause-stops
returns-in_err-rest-2-clause-stops c =
    passed_on c.from_residual-in_err-rest-2.result c.in_err-rest-2.field-0.0 _ _ c.from_residual-in_err-rest-2.ensures.1
    (λ left s f. object_blank c.args.text.now c.in_ok-o.o c.in_ok-o.rest.now c.in_ok-rest.rest.now
    c.in_ok-o.ensures.read c.in_ok-rest.ensures.read c.in_ok-shape.shape c.in_ok-shape.rest.now
    c.in_ok-shape.ensures.read s.1 f) c.in_err-rest-2.ensures.stops

pub returns-in_err-content-clause-stops : goal.returns-in_err-content-clause-stops
returns-in_err-content-clause-stops c = passed_on c.from_residual-in_err-content.result c.in_err-content.field-0.0 _ _
    c.from_residual-in_err-content.ensures.1 (λ left s f. object_content c.args.text.now c.in_ok-o.o c.in_ok-o.rest.now
    c.in_ok-rest.rest.now c.in_ok-o.ensures.read c.in_ok-rest.ensures.read c.in_ok-shape.shape c.in_ok-shape.rest.now
    c.in_ok-shape.ensures.read c.in_ok-rest-2.rest.now c.in_ok-rest-2.ensures.read s f) c.in_err-content.ensures.stops

pub returns-clause-read : goal.returns-clause-read
returns-clause-read c = object_whole c.args.text.now c.in_ok-o.o c.in_ok-o.rest.now
    c.in_ok-rest.rest.now c.in_ok-o.ensures.read c.in_ok-rest.ensures.read c.in_ok-shape.shape c.in_ok-shape.rest.now
    c.in_ok-shape.ensures.read (plain_option c.in_ok-content.content) c.in_ok-rest-2.rest.now
    c.in_ok-rest-2.ensures.read c.in_ok-content.ensures.read
