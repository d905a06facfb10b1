-- Other threads may borrow a shared guardian; seats, lookers and receipts may go there: as a set for `search`,
-- `crosses`.
use denote.RattleType.{RattleType}
use denote.Struct.Declared.{shape, row as declared_row}
use denote.Param.Send.{IsSend, IsSync, recorded_send, sendable, struct_send, view_send}
use Rattle.argus_board.proofs.Crossing as board
use Rattle.argus_board.specs.declared.board.Board.{Ghosts}
use Rattle.argus_entries.proofs.Crossing as entries
use Rattle.argus_core.proofs.Crossing.{guardian_sends}
use Rattle.argus_memory.proofs.Crossing as memory
use Rattle.argus_memory.proofs.heap.Heap.TheSendSync.{the_field_send as heap_field_sends}
use Rattle.argus_sharing.specs.contracts.receipt.Receipt.{the_row as receipt_row}
use Rattle.argus_sharing.specs.contracts.locked.Locked.TheInside.{the_type as inside}
use Rattle.argus_sharing.specs.contracts.locked.Locked.{the_row as locked_row}
use Rattle.argus_sharing.specs.contracts.seat.Seat.TheInside.{the_type as seat_inside}
use Rattle.argus_sharing.specs.contracts.seat.Seat.{the_row as seat_row}
use Rattle.argus_sharing.specs.contracts.shared.Shared.{the_row as shared_row}
use Rattle.argus_sharing.specs.contracts.publishing_guardian.PublishingGuardian.{the_field as publishing_field}
use Rattle.argus_sharing.specs.contracts.publishing_guardian.PublishingGuardian.{the_type as publishing_type}
use Rattle.argus_sharing.specs.declared.sharing.Sharing.{Ghosts as Named}
use Rattle.core.proofs.ledger.Book.TheSendSync.{the_send as book_sends}
use Rattle.core.proofs.ledger.Share.TheSendSync.{the_send as share_sends}
use Rattle.core.specs.declared.ledger.Ledger.{Ghosts as Ledgered}
use Rattle.std.proofs.Crossing.{crosses as std_crosses}

-- a guardian with its board
publishing_field_sends : (N R : RattleType) (g : Ghosts N.Denot) → IsSend R → IsSend (publishing_field N R g).row
publishing_field_sends N R g s = struct_send (shape (publishing_type N R g)) (
  guardian_sends,
  (board.writer_sends N R g s, tt),
)

module _ (N R : RattleType) (a : Named N.Denot) (l : Ledgered N.Denot) (g : Ghosts N.Denot) (s : IsSend R) where
  locked_inside_sends : IsSend (declared_row (inside N R a l g))
  locked_inside_sends = let t = inside N R a l g in
      recorded_send _ t.D t.to t.to_one (struct_send (shape t) (
        heap_field_sends,
        (publishing_field_sends N R g s, (book_sends N l, (search sendable, (search sendable, (search (sendable, std_crosses) depth 40, tt))))),
      ))

  pub locked_sends : IsSend (locked_row N R a l g)
  locked_sends = view_send _ _ _ _ _ locked_inside_sends

  pub shared_sends : IsSend (shared_row N R a l g)
  shared_sends = search (sendable, std_crosses, locked_sends) depth 40

  pub shared_syncs : IsSync (shared_row N R a l g)
  shared_syncs = search (sendable, std_crosses, locked_sends) depth 40

module _ (N : RattleType) (a : Named N.Denot) (l : Ledgered N.Denot) (g : Ghosts N.Denot) where
  seat_inside_sends : IsSend (declared_row (seat_inside N a l g))
  seat_inside_sends = let t = seat_inside N a l g in
      recorded_send _ t.D t.to t.to_one (struct_send (shape t) (search sendable, (share_sends N l, tt)))

  pub seat_sends : IsSend (seat_row N a l g)
  seat_sends = view_send _ _ _ _ _ seat_inside_sends

pub receipt_sends : IsSend receipt_row
receipt_sends = search (sendable, entries.call_field_sends, entries.reply_field_sends) depth 40

pub ruleset crosses = (
  memory.crosses,
  board.looker_sends,
  guardian_sends,
  locked_sends,
  shared_sends,
  shared_syncs,
  seat_sends,
  receipt_sends,
)
