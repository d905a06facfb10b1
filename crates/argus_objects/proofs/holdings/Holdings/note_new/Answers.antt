-- The list under the action's number is the action's, and no other's.
use Rattle.std.proofs.{Common.{sym, ◌∙◌, ap, arith}, lemmas.Grind.common_steps}
use Rattle.argus_objects.{specs.ObjectList.NotedObjects, proofs.Places.{found_read, listed, objects_set, rooms_set}}
use Rattle.argus_objects.proofs.Places.{unlisted}
use Rattle.argus_objects.proofs.holdings.Holdings.note_new.Goals as goal

pub index_mut-requires : goal.index_mut-requires
index_mut-requires c =
    omega (arith, listed c.args.self.now c.args.a c.in-Some.index (sym c.index_of.ensures ∙ c.in-Some.is))

pub note_new-requires-clause-room : goal.note_new-requires-clause-room
note_new-requires-clause-room c =
    omega (
      arith,
      c.requires.room,
      ap (λ (l : NotedObjects). l.room)
          (found_read c.args.self.now c.args.a _ _ _ c.index_of.ensures c.in-Some.is c.index_mut.ensures.value).noted,
    )

pub note_new-requires-clause-absent : goal.note_new-requires-clause-absent
note_new-requires-clause-absent c =
    let r = found_read c.args.self.now c.args.a _ _ _ c.index_of.ensures c.in-Some.is c.index_mut.ensures.value in
    let same = r.noted in
    rw (← same) c.requires.absent

pub returns-in-Some-clause-list : goal.returns-in-Some-clause-list
returns-in-Some-clause-list c = grind (arith, common_steps, found_read, objects_set)

pub returns-in-Some-clause-rooms : goal.returns-in-Some-clause-rooms
returns-in-Some-clause-rooms c = grind (arith, common_steps, found_read, rooms_set)

pub returns-in_default-clause-list : goal.returns-in_default-clause-list
returns-in_default-clause-list c = grind (arith, common_steps, unlisted)
