-- An integer stops where its digits do.
use Rattle.std.proofs.Common.{◌≢◌, [], ◌∷◌}
use Rattle.argus_texts.specs.Languages.{Numbers, Ints}
use Rattle.argus_texts.proofs.{Digits.{minus, plain}, Stops.{stops_in, stops_among}, Exits.passed_on}
use Rattle.argus_texts.proofs.number.int.Goals as goal

pub returns-in_err-number-clause-stops : goal.returns-in_err-number-clause-stops
returns-in_err-number-clause-stops c =
    passed_on c.from_residual.result c.in_err-number.field-0.0 _ _ c.from_residual.ensures.1
    (λ left s. stops_among (λ b. b ≢ 45) (Numbers 0 9223372036854775807) Ints plain c.args.text.now left
    c.in_default.ensures.none s) c.in_err-number.ensures.stops

pub returns-in_err-number-2-clause-stops : goal.returns-in_err-number-2-clause-stops
returns-in_err-number-2-clause-stops c =
    passed_on c.from_residual-in_err-number-2.result c.in_err-number-2.field-0.0 _ _
    c.from_residual-in_err-number-2.ensures.1 (λ left s. stops_in (45 ∷ []) (Numbers 1 9223372036854775808) Ints minus
    c.args.text.now c.in-Some.others.now left c.in-Some.ensures.some s) c.in_err-number-2.ensures.stops
