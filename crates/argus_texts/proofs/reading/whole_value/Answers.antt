-- The fault of the whole text.
use Rattle.argus_contents.specs.Value.{plain_value}
use Rattle.argus_texts.specs.{Fault.IsValueText, Languages.Values}
use Rattle.argus_texts.proofs.{Accepted.value_texts, Faults.{stopped, left_behind}, Forms.values_clear, Exits.passed_on}
use Rattle.argus_texts.proofs.reading.whole_value.Goals as goal

pub returns-in_err-value-clause-stops : goal.returns-in_err-value-clause-stops
returns-in_err-value-clause-stops c =
    passed_on c.from_residual.result c.in_err-value.field-0.0 _ _ c.from_residual.ensures.1
    (λ left s. stopped (Values 16) IsValueText (values_clear 16) value_texts c.args.text.now left s)
    c.in_err-value.ensures.stops

pub returns-then-rest-gt0-clause-stops : goal.returns-then-rest-gt0-clause-stops
returns-then-rest-gt0-clause-stops c =
    left_behind (Values 16) IsValueText (values_clear 16) value_texts (plain_value c.in_ok-value.value)
    c.args.text.now c.in_ok-value.rest.now c.in_ok-value.ensures.read c.if-rest-gt0.true
