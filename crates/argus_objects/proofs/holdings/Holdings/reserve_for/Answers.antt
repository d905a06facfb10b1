-- The list under the action's number is the action's, and no other's.
use Rattle.std.proofs.{Common.{sym, ◌∙◌, arith}, lemmas.Grind.common_steps}
use Rattle.argus_objects.proofs.Places.{found_read, listed, objects_kept, room_at, rooms_kept, unlisted}
use Rattle.argus_objects.proofs.holdings.Holdings.reserve_for.Goals as goal

pub index_mut-requires : goal.index_mut-requires
index_mut-requires c =
    omega (arith, listed c.args.self.now c.args.a c.in-Some.index (sym c.index_of.ensures ∙ c.in-Some.is))

pub returns-in-Some-clause-same : goal.returns-in-Some-clause-same
returns-in-Some-clause-same c = grind (arith, common_steps, found_read, objects_kept)

pub returns-in-Some-clause-ok : goal.returns-in-Some-clause-ok
returns-in-Some-clause-ok c = grind (arith, common_steps, room_at, found_read)

pub returns-in-Some-clause-rooms : goal.returns-in-Some-clause-rooms
returns-in-Some-clause-rooms c = grind (arith, common_steps, found_read, rooms_kept)

pub reserve_first-requires : goal.reserve_first-requires
reserve_first-requires c = unlisted c.args.self.now c.args.a (sym c.index_of.ensures ∙ c.in-None.is)
