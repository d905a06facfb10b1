-- Where a record stops.
use Rattle.std.proofs.Common.{[], ◌∷◌}
use Rattle.argus_texts.specs.Languages.{Contents, Insides}
use Rattle.argus_texts.proofs.{Contents.record_brace, Stops.stops_in, Exits.passed_on}
use Rattle.argus_texts.proofs.content_reading.one_content.Goals as goal

pub returns-in_err-fields-clause-stops : goal.returns-in_err-fields-clause-stops
returns-in_err-fields-clause-stops c =
    passed_on c.from_residual.result c.in_err-fields.field-0.0 _ _ c.from_residual.ensures.1
    (λ left s. stops_in (123 ∷ []) (Insides 125 16) (Contents 16) (record_brace 16) c.args.text.now c.in-Some.others.now
    left c.in-Some.ensures.some s) c.in_err-fields.ensures.stops
