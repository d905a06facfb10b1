-- Each of the two parts, or the blank between them, stops.
use Rattle.argus_reading.proofs.{Words.{first_ends, joint_lacks, second_ends}, Joints.int_joint, Lacks.passed_on}
use Rattle.argus_reading.proofs.part_reading.int_and_value.Goals as goal

pub returns-in_err-number-clause-stops : goal.returns-in_err-number-clause-stops
returns-in_err-number-clause-stops c =
    passed_on c.from_residual.result c.in_err-number.field-0.0 _ _ c.from_residual.ensures.1
    (λ left s. first_ends (int_joint c.args.before.now) s) c.in_err-number.ensures.stops

pub returns-in_err-rest-clause-stops : goal.returns-in_err-rest-clause-stops
returns-in_err-rest-clause-stops c =
    passed_on c.from_residual-in_err-rest.result c.in_err-rest.field-0.0 _ _ c.from_residual-in_err-rest.ensures.1
    (λ left s. joint_lacks (int_joint c.args.before.now) c.in_ok-number.ensures.read s) c.in_err-rest.ensures.stops

pub returns-in_err-value-clause-stops : goal.returns-in_err-value-clause-stops
returns-in_err-value-clause-stops c =
    passed_on c.from_residual-in_err-value.result c.in_err-value.field-0.0 _ _ c.from_residual-in_err-value.ensures.1
    (λ left s. second_ends (int_joint c.args.before.now) c.in_ok-number.ensures.read c.in_ok-rest.ensures.read s)
    c.in_err-value.ensures.stops
