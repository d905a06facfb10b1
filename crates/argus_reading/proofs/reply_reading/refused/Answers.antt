-- The word, or the name behind it, stops.
use Rattle.std.specs.Prelude.{codes}
use Rattle.argus_reading.specs.Replies.{Refusals}
use Rattle.argus_entries.specs.declared.refusal.Refusal.TheVariants.{NoAction}
use Rattle.argus_reading.proofs.{Words.{word_lacks, word_ends}, Lacks.passed_on}
use Rattle.argus_reading.proofs.reply_reading.refused.Goals as goal

pub returns-in_err-rest-clause-stops : goal.returns-in_err-rest-clause-stops
returns-in_err-rest-clause-stops c =
    passed_on c.from_residual.result c.in_err-rest.field-0.0 _ _ c.from_residual.ensures.1
    (λ left s. word_lacks (codes "refused ") Refusals NoAction tt s) c.in_err-rest.ensures.stops

pub returns-in_err-refusal-clause-stops : goal.returns-in_err-refusal-clause-stops
returns-in_err-refusal-clause-stops c = passed_on c.from_residual-in_err-refusal.result c.in_err-refusal.field-0.0 _ _
    c.from_residual-in_err-refusal.ensures.1 (λ left s. word_ends (codes "refused ") Refusals c.in_ok-rest.ensures.read
    s) c.in_err-refusal.ensures.stops
