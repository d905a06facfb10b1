-- What is left of the two lists decides whether they say the same.
use Rattle.std.proofs.Common.{◌≡◌, drop}
use Rattle.argus_contents.specs.{Same.same_values, Value.{listed, plain_list}}
use Rattle.argus_contents.proofs.value.+same.Given as goal

abbrev pub invariant-are_same-loop-i : goal.invariant-are_same-loop-i
invariant-are_same-loop-i l =
    same_values (listed (plain_list l.a)) (listed (plain_list l.b))
    ≡ same_values (listed (plain_list (drop l.i l.a))) (listed (plain_list (drop l.i l.b)))
