-- The word, or what has to come behind it, stops.
use Rattle.std.proofs.Common.{arith}
use Rattle.argus_texts.specs.Languages.{Numbers}
use Rattle.argus_reading.proofs.{Words.{word_lacks, word_ends}, Lacks.passed_on}
use Rattle.argus_reading.proofs.part_reading.number_behind.Goals as goal

pub returns-in_err-rest-clause-stops : goal.returns-in_err-rest-clause-stops
returns-in_err-rest-clause-stops c =
    passed_on c.from_residual.result c.in_err-rest.field-0.0 _ _ c.from_residual.ensures.1
    (λ left s. word_lacks c.args.before.now (Numbers 0 c.args.most) 0 (omega arith, omega arith) s)
    c.in_err-rest.ensures.stops

pub returns-in_err-number-clause-stops : goal.returns-in_err-number-clause-stops
returns-in_err-number-clause-stops c =
    passed_on c.from_residual-in_err-number.result c.in_err-number.field-0.0 _ _ c.from_residual-in_err-number.ensures.1
    (λ left s. word_ends c.args.before.now (Numbers 0 c.args.most) c.in_ok-rest.ensures.read s)
    c.in_err-number.ensures.stops
