-- Each of the two parts, or the blank between them, stops.
use Rattle.argus_reading.proofs.{Words.{first_ends, joint_lacks, second_ends}, Joints.place_joint, Lacks.passed_on}
use Rattle.argus_reading.proofs.part_reading.place.Goals as goal

pub returns-in_err-action-clause-stops : goal.returns-in_err-action-clause-stops
returns-in_err-action-clause-stops c =
    passed_on c.from_residual.result c.in_err-action.field-0.0 _ _ c.from_residual.ensures.1
    (λ left s. first_ends (place_joint c.args.before.now) s) c.in_err-action.ensures.stops

pub returns-in_err-rest-clause-stops : goal.returns-in_err-rest-clause-stops
returns-in_err-rest-clause-stops c =
    passed_on c.from_residual-in_err-rest.result c.in_err-rest.field-0.0 _ _ c.from_residual-in_err-rest.ensures.1
    (λ left s. joint_lacks (place_joint c.args.before.now) c.in_ok-action.ensures.read s) c.in_err-rest.ensures.stops

pub returns-in_err-object-clause-stops : goal.returns-in_err-object-clause-stops
returns-in_err-object-clause-stops c =
    passed_on c.from_residual-in_err-object.result c.in_err-object.field-0.0 _ _ c.from_residual-in_err-object.ensures.1
    (λ left s. second_ends (place_joint c.args.before.now) c.in_ok-action.ensures.read c.in_ok-rest.ensures.read s)
    c.in_err-object.ensures.stops
