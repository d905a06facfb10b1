-- Each of the two parts, or the blank between them, stops.
use Rattle.argus_reading.proofs.{Words.{first_ends, joint_lacks, second_ends}, Joints.ints_joint, Lacks.passed_on}
use Rattle.argus_reading.proofs.part_reading.two_ints.Goals as goal

pub returns-in_err-one-clause-stops : goal.returns-in_err-one-clause-stops
returns-in_err-one-clause-stops c =
    passed_on c.from_residual.result c.in_err-one.field-0.0 _ _ c.from_residual.ensures.1
    (λ left s. first_ends (ints_joint c.args.before.now) s) c.in_err-one.ensures.stops

pub returns-in_err-rest-clause-stops : goal.returns-in_err-rest-clause-stops
returns-in_err-rest-clause-stops c =
    passed_on c.from_residual-in_err-rest.result c.in_err-rest.field-0.0 _ _ c.from_residual-in_err-rest.ensures.1
    (λ left s. joint_lacks (ints_joint c.args.before.now) c.in_ok-one.ensures.read s) c.in_err-rest.ensures.stops

pub returns-in_err-other-clause-stops : goal.returns-in_err-other-clause-stops
returns-in_err-other-clause-stops c =
    passed_on c.from_residual-in_err-other.result c.in_err-other.field-0.0 _ _ c.from_residual-in_err-other.ensures.1
    (λ left s. second_ends (ints_joint c.args.before.now) c.in_ok-one.ensures.read c.in_ok-rest.ensures.read s)
    c.in_err-other.ensures.stops
