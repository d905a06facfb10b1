-- What stands in the action's place is the number of its list, if that list is its own.
use Rattle.std.proofs.{lemmas.{List.get_or_past, Grind.common_steps}, Common.arith}
use Rattle.argus_objects.{specs.Holdings.owned_index, proofs.Places.{owned_is, owned_other, owned_past, place_is}}
use Rattle.argus_objects.proofs.holdings.Holdings.index_of.Goals as goal

pub returns-in_default : goal.returns-in_default
unfolding owned_index
returns-in_default c = grind (arith, common_steps, place_is)

pub returns-in_default-2 : goal.returns-in_default-2
unfolding owned_index
returns-in_default-2 c = grind (arith, common_steps, place_is, get_or_past)

pub returns-in-Some : goal.returns-in-Some
returns-in-Some c = grind (arith, common_steps, place_is, owned_is)

pub returns-in_default-get : goal.returns-in_default-get
returns-in_default-get c = grind (arith, common_steps, place_is, owned_other)

pub returns-in_default-get-2 : goal.returns-in_default-get-2
returns-in_default-get-2 c = grind (arith, common_steps, place_is, owned_past)
