-- The place, the blank behind it, or the operation stops.
use Rattle.std.specs.Prelude.{codes}
use Rattle.argus_reading.proofs.{Words.{first_ends, joint_lacks, second_ends}, Calls.alter_joint, Lacks.passed_on}
use Rattle.argus_reading.proofs.call_reading.alter.Goals as goal

pub returns-in_err-a-clause-stops : goal.returns-in_err-a-clause-stops
returns-in_err-a-clause-stops c = passed_on c.from_residual.result c.in_err-a.field-0.0 _ _ c.from_residual.ensures.1
    (λ left s. first_ends (alter_joint (codes "alter a")) s) c.in_err-a.ensures.stops

pub returns-in_err-rest-clause-stops : goal.returns-in_err-rest-clause-stops
returns-in_err-rest-clause-stops c =
    passed_on c.from_residual-in_err-rest.result c.in_err-rest.field-0.0 _ _ c.from_residual-in_err-rest.ensures.1
    (λ left s. joint_lacks (alter_joint (codes "alter a")) c.in_ok-a.ensures.read s) c.in_err-rest.ensures.stops

pub returns-in_err-change-clause-stops : goal.returns-in_err-change-clause-stops
returns-in_err-change-clause-stops c =
    passed_on c.from_residual-in_err-change.result c.in_err-change.field-0.0 _ _ c.from_residual-in_err-change.ensures.1
    (λ left s. second_ends (alter_joint (codes "alter a")) c.in_ok-a.ensures.read c.in_ok-rest.ensures.read s)
    c.in_err-change.ensures.stops
