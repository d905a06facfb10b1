-- A guardian that is being made from lines may go to another thread.
use denote.Struct.Declared.{shape, row as declared_row}
use denote.Param.Send.{IsSend, recorded_send, sendable, struct_send, view_send}
use Rattle.argus_contents.proofs.Crossing as contents
use Rattle.argus_core.proofs.Crossing.{guardian_sends}
use Rattle.argus_memory.proofs.Crossing as memory
use Rattle.argus_memory.proofs.heap.Heap.TheSendSync.{the_field_send as heap_field_sends}
use Rattle.argus_resume.specs.contracts.opened_object.OpenedObject.{the_row as object_row}
use Rattle.argus_resume.specs.contracts.resuming.Resuming.{the_row as resuming_row}
use Rattle.argus_resume.specs.contracts.resuming.Resuming.TheInside.{the_type as resuming_inside}
use Rattle.argus_resume.specs.contracts.stage.Stage.{the_field as stage_field}
use Rattle.std.specs.contracts.vec.Vec.{the_row as list_row}

object_sends : IsSend object_row
object_sends = search (sendable, contents.crosses) depth 40

objects_sends : IsSend (list_row object_row memory.room memory.rests)
objects_sends = memory.list_sends object_row object_sends

stage_field_sends : IsSend stage_field.row
stage_field_sends = search (sendable, objects_sends, guardian_sends) depth 40 fits 20000

resuming_inside_sends : IsSend (declared_row resuming_inside)
resuming_inside_sends = let t = resuming_inside in
    recorded_send _ t.D t.to t.to_one (struct_send (shape t) (heap_field_sends, (stage_field_sends, tt)))

pub resuming_sends : IsSend resuming_row
resuming_sends = view_send _ _ _ _ _ resuming_inside_sends
