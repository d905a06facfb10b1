-- Where a variant stops.
use Rattle.std.proofs.Common.{[], ◌∷◌}
use Rattle.argus_texts.specs.Languages.{Choices, Contents}
use Rattle.argus_texts.proofs.{Contents.variant_angle, Stops.stops_in, Exits.passed_on}
use Rattle.argus_texts.proofs.content_reading.variant_or_array.Goals as goal

pub returns-in_err-tag-clause-stops : goal.returns-in_err-tag-clause-stops
returns-in_err-tag-clause-stops c =
    passed_on c.from_residual.result c.in_err-tag.field-0.0 _ _ c.from_residual.ensures.1
    (λ left s. stops_in (60 ∷ []) (Choices 16) (Contents 16) (variant_angle 16) c.args.text.now c.in-Some.others.now
    left c.in-Some.ensures.some s) c.in_err-tag.ensures.stops
