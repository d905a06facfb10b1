-- What all workers get may be looked at from other threads, and what arms left may go there.
use denote.RattleType.{RattleType}
use denote.Ref.{NamedLft}
use denote.Struct.Declared.{shape}
use denote.Param.Send.{IsSend, IsSync, recorded_sync, sendable, struct_sync}
use Rattle.argus_actions.specs.contracts.action_id.ActionId.{the_row as action_row}
use Rattle.argus_board.specs.declared.board.Board.{Ghosts}
use Rattle.argus_language.proofs.step.Step.TheLaws.TheKnot.{sync-Step}
use Rattle.argus_language.specs.contracts.step.Step.{the_field as step_field, the_row as step_row}
use Rattle.argus_contents.proofs.Crossing as contents
use Rattle.argus_contents.specs.contracts.obj_id.ObjId.{the_row as object_row}
use Rattle.argus_memory.proofs.Crossing as memory
use Rattle.argus_memory.proofs.heap.Heap.TheSendSync.{the_field_sync as heap_field_syncs}
use Rattle.argus_sharing.specs.contracts.receipt.Receipt.{the_row as receipt_row}
use Rattle.argus_sharing.proofs.Crossing as sharing
use Rattle.argus_sharing.specs.declared.sharing.Sharing.{Ghosts as Named}
use Rattle.argus_workers.specs.contracts.arm_context.ArmContext.{the_row as handed_row, the_type as handed_type}
use Rattle.argus_workers.specs.contracts.arm_receipts.ArmReceipts.{the_row as left_row}
use Rattle.core.specs.declared.ledger.Ledger.{Ghosts as Ledgered}
use Rattle.std.specs.contracts.option.Option.{the_row as option_row}
use Rattle.std.specs.contracts.vec.Vec.{the_row as list_row}

pub step_field_syncs : IsSync step_field.row
step_field_syncs = sync-Step (search sendable) contents.query_field_syncs contents.change_field_syncs
    (search sendable depth 40) memory.list_syncs

pub step_syncs : IsSync step_row
step_syncs = search (sendable, step_field_syncs)

pub receipts_sends : IsSend (list_row receipt_row memory.room memory.rests)
receipts_sends = memory.list_sends receipt_row sharing.receipt_sends

pub left_sends : IsSend left_row
left_sends = search (sendable, memory.crosses, receipts_sends) depth 40

pub object_syncs : IsSync object_row
object_syncs = search sendable depth 40

pub begun_syncs : IsSync (option_row action_row)
begun_syncs = search sendable depth 40

module _ (t : NamedLft) (N R G : RattleType) (a : Named N.Denot) (l : Ledgered N.Denot) (b : Ghosts N.Denot) where
  pub arm_context_syncs : IsSend R → IsSync R → IsSync G → IsSync (handed_row t N R G a l b)
  arm_context_syncs send_r sync_r sync_g = let handed = handed_type t N R G a l b in
      recorded_sync _ handed.D handed.to handed.to_one (struct_sync (shape handed) (
        search (sendable, sync_r) depth 40,
        (
          heap_field_syncs,
          (
            search (sendable, sharing.shared_syncs, send_r) depth 40,
            (
              search (sendable, sync_g) depth 40,
              (
                search sendable,
                (
                  search (sendable, step_syncs) depth 40,
                  (
                    search (sendable, begun_syncs) depth 40,
                    (search (sendable, object_syncs) depth 40, (search sendable, tt)),
                  ),
                ),
              ),
            ),
          ),
        ),
      ))
