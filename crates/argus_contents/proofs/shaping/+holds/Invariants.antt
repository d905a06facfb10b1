-- What is left of the types decides whether a test holds in one of them.
use Rattle.std.proofs.Common.{◌≡◌, drop}
use Rattle.argus_contents.specs.{Shape.in_fields, ShapeKind.test_of, Ty.plain_fields}
use Rattle.argus_contents.proofs.shaping.+holds.Given as goal

abbrev pub invariant-holds_in_fields-loop-ty : goal.invariant-holds_in_fields-loop-ty
invariant-holds_in_fields-loop-ty l =
    in_fields (test_of l.test) (plain_fields l.fields) ≡ in_fields (test_of l.test)
    (plain_fields (drop l.ty-index l.fields))
