-- What is left of the names decides whether one stands twice.
use Rattle.std.proofs.Common.{◌≡◌, drop}
use Rattle.argus_contents.specs.{Shape.{names_of, has_twice}, Ty.plain_fields}
use Rattle.argus_contents.proofs.shaping.has_name_twice.Given as goal

abbrev pub invariant-loop-i : goal.invariant-loop-i
invariant-loop-i l =
    has_twice (names_of (plain_fields l.fields)) ≡ has_twice (names_of (plain_fields (drop l.i l.fields)))
