-- What is on a board may go to another thread, and be looked at from there, and so may its writer and its lookers: as a
-- set for `search`, `crosses`.
use denote.RattleType.{RattleType}
use denote.Struct.Declared.{shape, row as declared_row}
use denote.Struct.Tuple.{Tuple, tuple_type}
use denote.Param.Send.{IsSend, IsSync, recorded_send, recorded_sync, sendable, struct_send, struct_sync, view_send}
use Rattle.std.specs.Prelude.{[], ◌∷◌}
use Rattle.std.specs.contracts.option.Option.{the_row as option_row}
use Rattle.std.specs.contracts.vec.Vec.{the_row as list_row}
use Rattle.argus_memory.proofs.Crossing as memory
use Rattle.argus_contents.proofs.Crossing as contents
use Rattle.argus_contents.specs.contracts.content.Content.{the_row as content_row}
use Rattle.argus_contents.specs.contracts.obj_id.ObjId.{the_row as object_row}
use Rattle.argus_board.proofs.history_prefix.HistoryPrefix.TheSendSync.{the_field_send as front_field_sends}
use Rattle.argus_board.proofs.history_prefix.HistoryPrefix.TheSendSync.{the_field_sync as front_field_syncs}
use Rattle.argus_board.proofs.keeper.Keeper.TheSendSync.{the_field_send as keeper_field_sends}
use Rattle.left_right.proofs.reader.Reader.TheSendSync.{the_field_send as place_send}
use Rattle.core.proofs.option.Option.TheSendSync.{the_field_send as option_field_sends}
use Rattle.left_right.proofs.writer.Writer.TheSendSync.{the_send as publisher_send}
use Rattle.argus_board.specs.contracts.history_prefix.HistoryPrefix.{the_row as front_row}
use Rattle.argus_board.specs.contracts.table.Contents.{the_row as contents_row}
use Rattle.argus_board.specs.contracts.table.TableAbsorbBoardChange.TheImpl.{ghosts as absorbs}
use Rattle.argus_board.specs.contracts.published.PublishedProtocolTableView.TheImpl.{ghosts as keeps, no_dict}
use Rattle.argus_board.specs.declared.board.Board.{Ghosts}
use Rattle.argus_board.specs.contracts.board_writer.BoardWriter.{the_row as writer_row}
use Rattle.argus_board.specs.contracts.published.View.{the_row as view_row}
use Rattle.argus_board.specs.contracts.published.Published.{the_row as published_row}
use Rattle.argus_board.specs.contracts.board_writer.BoardWriter.TheInside.{the_type as inside}
use Rattle.argus_board.specs.contracts.looker.Looker.{the_row as looker_row}
use Rattle.argus_board.specs.contracts.looker.Looker.TheInside.{the_type as looker_inside}
use Rattle.argus_board.specs.contracts.board_change.BoardChange.{the_field as change_field, the_row as change_row}
use Rattle.argus_board.specs.contracts.table.Table.{the_row as table_row}

option_sends : IsSend (option_row content_row)
option_sends = search (sendable, contents.crosses) depth 40

option_syncs : IsSync (option_row content_row)
option_syncs = search (sendable, contents.crosses) depth 40

-- an object with its content
abbrev pub pair_row : RattleType
pair_row = Tuple (object_row ∷ option_row content_row ∷ [])

pair_sends : IsSend pair_row
pair_sends = let pair = tuple_type (object_row ∷ option_row content_row ∷ []) in
    recorded_send _ pair.D pair.to pair.to_one (struct_send (shape pair) (search sendable, (option_sends, tt)))

pair_syncs : IsSync pair_row
pair_syncs = let pair = tuple_type (object_row ∷ option_row content_row ∷ []) in
    recorded_sync _ pair.D pair.to pair.to_one (struct_sync (shape pair) (search sendable, (option_syncs, tt)))

pub effect_sends : IsSend (list_row pair_row memory.room memory.rests)
effect_sends = memory.list_sends pair_row pair_sends

pub effect_syncs : IsSync (list_row pair_row memory.room memory.rests)
effect_syncs = memory.list_syncs pair_row pair_syncs

pub contents_sends : IsSend (list_row (option_row content_row) memory.room memory.rests)
contents_sends = memory.list_sends (option_row content_row) option_sends

pub contents_syncs : IsSync (list_row (option_row content_row) memory.room memory.rests)
contents_syncs = memory.list_syncs (option_row content_row) option_syncs

pub table_sends : IsSend table_row
table_sends = search (sendable, contents_sends, front_field_sends) depth 40

pub table_syncs : IsSync table_row
table_syncs = search (sendable, contents_syncs, front_field_syncs) depth 40

pub change_field_sends : IsSend change_field.row
change_field_sends = search (sendable, effect_sends, front_field_sends) depth 40

pub change_field_syncs : IsSync change_field.row
change_field_syncs = search (sendable, effect_syncs, front_field_syncs) depth 40

pub change_sends : IsSend change_row
change_sends = search (sendable, change_field_sends)

pub change_syncs : IsSync change_row
change_syncs = search (sendable, change_field_syncs)

inside_sends : (N R : RattleType) (g : Ghosts N.Denot) → IsSend R → IsSend (declared_row (inside N R g))
inside_sends N R g s = let t = inside N R g in
    recorded_send _ t.D t.to t.to_one (struct_send (shape t) (
      option_field_sends _ (publisher_send table_row change_row view_row (published_row N) memory.room (Tuple
          (contents_row ∷ front_row ∷ [])) absorbs
          (keeps N g no_dict) memory.rests table_sends change_sends memory.room_sends table_syncs memory.room_syncs
          memory.room_frees),
      (front_field_sends, (keeper_field_sends, (front_field_sends, (search sendable, (s, tt))))),
    ))

pub writer_sends : (N R : RattleType) (g : Ghosts N.Denot) → IsSend R → IsSend (writer_row N R g)
writer_sends N R g s = view_send _ _ _ _ _ (inside_sends N R g s)

looker_inside_sends : (N : RattleType) (g : Ghosts N.Denot) → IsSend (declared_row (looker_inside N g))
looker_inside_sends N g = let t = looker_inside N g in
    recorded_send _ t.D t.to t.to_one (struct_send (shape t) (
      place_send table_row view_row (published_row N) memory.room (keeps N g no_dict) memory.rests memory.room_sends
          table_syncs memory.room_syncs memory.room_frees,
      (front_field_sends, tt),
    ))

pub looker_sends : (N : RattleType) (g : Ghosts N.Denot) → IsSend (looker_row N g)
looker_sends N g = view_send _ _ _ _ _ (looker_inside_sends N g)

pub ruleset crosses = (
  memory.crosses,
  effect_sends,
  effect_syncs,
  contents_sends,
  contents_syncs,
  table_sends,
  table_syncs,
  change_field_sends,
  change_field_syncs,
  change_sends,
  change_syncs,
  writer_sends,
  looker_sends,
)
