-- Where the whole text is no shape's.
use Rattle.argus_texts.proofs.{ShapeParts.{no_shape_text, more_than_shape}, Exits.refused_on}
use Rattle.argus_texts.proofs.shape_reading.whole_shape.Goals as goal

pub returns-in_err-shape-clause-refused : goal.returns-in_err-shape-clause-refused
returns-in_err-shape-clause-refused c =
    refused_on c.from_residual.result c.in_err-shape.field-0.0 _ _ c.from_residual.ensures.1
    (no_shape_text c.args.text.now) c.in_err-shape.ensures.refused

pub returns-then-rest-gt0-clause-refused : goal.returns-then-rest-gt0-clause-refused
returns-then-rest-gt0-clause-refused c =
    more_than_shape c.args.text.now c.in_ok-shape.rest.now c.in_ok-shape.shape c.in_ok-shape.ensures.read
    c.if-rest-gt0.true
