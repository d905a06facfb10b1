-- What is left of the names decides whether one is found.
use Rattle.std.proofs.Common.{◌≡◌, drop, nat_eq}
use Rattle.std.specs.List.{list_any}
use lib.Pointwise.{pointwise}
use Rattle.argus_contents.specs.{Shape.names_of, Ty.plain_fields}
use Rattle.argus_contents.proofs.shaping.has_name.Given as goal

abbrev pub invariant-loop-other : goal.invariant-loop-other
invariant-loop-other l =
    list_any (λ other. pointwise nat_eq other l.name) (names_of (plain_fields l.fields))
    ≡ list_any (λ other. pointwise nat_eq other l.name) (names_of (plain_fields (drop l.other-index l.fields)))
