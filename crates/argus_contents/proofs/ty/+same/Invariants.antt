-- What is left of the two lists decides whether they say the same.
use Rattle.std.proofs.Common.{◌≡◌, drop}
use Rattle.argus_contents.specs.{Same.same_fields, Ty.plain_fields}
use Rattle.argus_contents.proofs.ty.+same.Given as goal

abbrev pub invariant-are_same-loop-i : goal.invariant-are_same-loop-i
invariant-are_same-loop-i l =
    same_fields (plain_fields l.a) (plain_fields l.b) ≡ same_fields (plain_fields (drop l.i l.a))
    (plain_fields (drop l.i l.b))
