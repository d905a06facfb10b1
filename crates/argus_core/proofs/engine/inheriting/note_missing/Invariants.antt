-- The parent's list has the objects so far, and all other lists are as before.
use Rattle.std.proofs.Common.{length, take, ◌+◌, ◌≤◌}
use Rattle.argus_objects.specs.Holdings.{Lists, holdings_room_of, objects_held_by, passed}
use Rattle.argus_core.proofs.engine.inheriting.note_missing.Given as goal

abbrev pub invariant-loop-place : goal.invariant-loop-place
invariant-loop-place l =
    let held = objects_held_by l.initial.holdings l.a in
    record {
      lists : Lists l.initial.holdings l.parent (passed (take l.place held)
          (objects_held_by l.initial.holdings l.parent)) l.holdings;
      room : length held ≤ holdings_room_of l.holdings l.parent + l.place;
      low : l.place ≤ length held;
    }
