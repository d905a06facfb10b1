-- The action gets a list that no other has, and then room in it.
use Rattle.std.proofs.{Common.{◌∙◌, arith}, lemmas.Grind.common_steps}
use Rattle.argus_objects.proofs.Places.{noted_read, objects_kept, room_at, rooms_kept}
use Rattle.argus_objects.proofs.holdings.Holdings.reserve_first.Goals as goal

pub give-requires-clause-none : goal.give-requires-clause-none
give-requires-clause-none c = c.unused_list.ensures.same c.args.a ∙ (c.reserve_place.ensures.same c.args.a ∙ c.requires)

pub returns-clause-same : goal.returns-clause-same
returns-clause-same c = grind (arith, common_steps, noted_read, objects_kept)

pub returns-clause-ok : goal.returns-clause-ok
returns-clause-ok c = grind (arith, common_steps, room_at, noted_read)

pub returns-clause-rooms : goal.returns-clause-rooms
returns-clause-rooms c = grind (arith, common_steps, noted_read, rooms_kept)
