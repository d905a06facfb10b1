-- A guardian may go to another thread, and so may one whose commit is ready.
use denote.Struct.Declared.{shape, row as declared_row}
use denote.Param.Send.{IsSend, recorded_send, sendable, struct_send, view_send}
use Rattle.argus_actions.proofs.Crossing as actions
use Rattle.argus_contents.proofs.Crossing as contents
use Rattle.argus_core.specs.contracts.guardian.Guardian.{the_row as guardian_row}
use Rattle.argus_core.specs.contracts.guardian.Guardian.TheInside.{the_type as guardian_inside}
use Rattle.argus_core.specs.contracts.ready_commit.ReadyCommit.{the_row as ready_row}
use Rattle.argus_core.specs.contracts.ready_commit.ReadyCommit.TheInside.{the_type as ready_inside}
use Rattle.argus_journal.proofs.Crossing as journal
use Rattle.argus_journal.specs.contracts.legal_journal.LegalJournal.{the_field as legal_field}
use Rattle.argus_memory.proofs.Crossing as memory
use Rattle.argus_memory.proofs.heap.Heap.TheSendSync.{the_field_send as heap_field_sends}
use Rattle.argus_objects.proofs.Crossing as objects
use Rattle.argus_objects.proofs.holdings.Holdings.TheSendSync.{the_field_send as holdings_field_sends}
use Rattle.argus_core.specs.contracts.engine.atomic_object.AtomicObject.{the_row as object_row}
use Rattle.argus_core.specs.contracts.engine.guardian_state.GuardianState.{the_field as parts_field}
use Rattle.argus_core.specs.contracts.engine.guardian_state.GuardianState.{the_type as parts_type}
use Rattle.std.specs.contracts.vec.Vec.{the_row as list_row}

object_sends : IsSend object_row
object_sends = search (sendable, contents.crosses, objects.crosses) depth 40

objects_sends : IsSend (list_row object_row memory.room memory.rests)
objects_sends = memory.list_sends object_row object_sends

legal_field_sends : IsSend legal_field.row
legal_field_sends = search (sendable, journal.objects_sends, journal.entries_sends, journal.filled_sends) depth 50 fits 40000

parts_field_sends : IsSend parts_field.row
parts_field_sends = struct_send (shape parts_type) (
  heap_field_sends,
  (actions.tree_sends, (objects_sends, (holdings_field_sends, (legal_field_sends, tt)))),
)

guardian_inside_sends : IsSend (declared_row guardian_inside)
guardian_inside_sends = let t = guardian_inside in
    recorded_send _ t.D t.to t.to_one (struct_send (shape t) (parts_field_sends, tt))

pub guardian_sends : IsSend guardian_row
guardian_sends = view_send _ _ _ _ _ guardian_inside_sends

ready_inside_sends : IsSend (declared_row ready_inside)
ready_inside_sends = let t = ready_inside in
    recorded_send _ t.D t.to t.to_one (struct_send (shape t) (
      parts_field_sends,
      (search sendable depth 40, (search (sendable, actions.crosses) depth 40, tt)),
    ))

pub ready_commit_sends : IsSend ready_row
ready_commit_sends = view_send _ _ _ _ _ ready_inside_sends
