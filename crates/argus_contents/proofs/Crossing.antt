-- Names, types, shapes, values, contents, changes, queries and answers, small ones too, may go to another thread, and
-- be looked at from there: as a set for `search`, `crosses`.
use denote.Param.Send.{IsSend, IsSync, recorded_send, recorded_sync, sendable, struct_send, struct_sync}
use denote.RattleType.{RattleType}
use denote.Struct.Declared.{shape}
use denote.Struct.Struct.{Struct}
use denote.Struct.Tuple.{Tuple, tuple_type}
use Rattle.std.proofs.Common.{[], ◌∷◌}
use Rattle.std.specs.contracts.boxed.Box.{the_row as box_row}
use Rattle.std.specs.contracts.vec.Vec.{the_row as list_row}
use Rattle.argus_memory.proofs.Crossing as memory
use Rattle.argus_contents.specs.contracts.value.Value.{the_row as value_row, the_field as value_field}
use Rattle.argus_contents.specs.contracts.content.Content.{the_field as content_field, the_row as content_row}
use Rattle.argus_contents.specs.contracts.answer.Answer.{the_field as answer_field, the_row as answer_row}
use Rattle.argus_contents.specs.contracts.change.Change.{the_field as change_field, the_row as change_row}
use Rattle.argus_contents.specs.contracts.query.Query.{the_field as query_field, the_row as query_row}
use Rattle.argus_contents.specs.contracts.small_answer.SmallAnswer.{the_field as small_field, the_row as small_row}
use Rattle.argus_contents.specs.contracts.shape.Shape.{the_row as shape_row}
use Rattle.argus_contents.specs.contracts.name.Name.{the_row as name_row}
use Rattle.argus_contents.specs.contracts.ty.Ty.{the_row as ty_row, the_field as ty_field}
use Rattle.argus_contents.proofs.ty.Ty.TheLaws.TheKnot.{send-Ty, sync-Ty}
use Rattle.argus_contents.proofs.value.Value.TheLaws.TheKnot.{send-Value, sync-Value}

-- a list behind a box
abbrev boxed_list : RattleType → RattleType
boxed_list h = box_row (list_row h memory.room memory.rests) memory.room memory.rests

boxed_list_sends : (h : RattleType) → IsSend h → IsSend (boxed_list h)
boxed_list_sends h s = memory.box_sends (list_row h memory.room memory.rests) (memory.list_sends h s)

boxed_list_syncs : (h : RattleType) → IsSync h → IsSync (boxed_list h)
boxed_list_syncs h s = memory.box_syncs (list_row h memory.room memory.rests) (memory.list_syncs h s)

pub value_field_sends : IsSend value_field.row
value_field_sends = send-Value (search sendable) (search sendable) (search (sendable, memory.crosses)) (search sendable)
    boxed_list_sends (search sendable) memory.box_sends

pub value_field_syncs : IsSync value_field.row
value_field_syncs = sync-Value (search sendable) (search sendable) (search (sendable, memory.crosses)) (search sendable)
    boxed_list_syncs (search sendable) memory.box_syncs

pub value_sends : IsSend value_row
value_sends = search (sendable, value_field_sends)

pub value_syncs : IsSync value_row
value_syncs = search (sendable, value_field_syncs)

pub content_field_sends : IsSend content_field.row
content_field_sends = search (sendable, memory.crosses, value_field_sends) depth 12

pub content_field_syncs : IsSync content_field.row
content_field_syncs = search (sendable, memory.crosses, value_field_syncs) depth 12

pub content_sends : IsSend content_row
content_sends = search (sendable, content_field_sends)

pub content_syncs : IsSync content_row
content_syncs = search (sendable, content_field_syncs)

pub name_sends : IsSend name_row
name_sends = search (sendable, memory.crosses) depth 12

pub name_syncs : IsSync name_row
name_syncs = search (sendable, memory.crosses) depth 12

-- a name beside what may cross
pair_sends : (h : RattleType) → IsSend h → IsSend (Tuple (name_row ∷ h ∷ []))
pair_sends h s = let t = tuple_type (name_row ∷ h ∷ []) in
    recorded_send (Struct (shape t)) t.D t.to t.to_one (struct_send (shape t) (name_sends, (s, tt)))

pair_syncs : (h : RattleType) → IsSync h → IsSync (Tuple (name_row ∷ h ∷ []))
pair_syncs h s = let t = tuple_type (name_row ∷ h ∷ []) in
    recorded_sync (Struct (shape t)) t.D t.to t.to_one (struct_sync (shape t) (name_syncs, (s, tt)))

pub ty_field_sends : IsSend ty_field.row
ty_field_sends = send-Ty memory.box_sends (λ h s. memory.list_sends (Tuple (name_row ∷ h ∷ [])) (pair_sends h s))

pub ty_field_syncs : IsSync ty_field.row
ty_field_syncs = sync-Ty memory.box_syncs (λ h s. memory.list_syncs (Tuple (name_row ∷ h ∷ [])) (pair_syncs h s))

pub ty_sends : IsSend ty_row
ty_sends = search (sendable, ty_field_sends)

pub ty_syncs : IsSync ty_row
ty_syncs = search (sendable, ty_field_syncs)

pub shape_sends : IsSend shape_row
shape_sends = search (sendable, memory.crosses, name_sends, ty_field_sends, ty_sends) depth 40

pub shape_syncs : IsSync shape_row
shape_syncs = search (sendable, memory.crosses, name_syncs, ty_field_syncs, ty_syncs) depth 40

pub change_field_sends : IsSend change_field.row
change_field_sends = search (sendable, memory.crosses, value_field_sends, content_sends) depth 40

pub change_field_syncs : IsSync change_field.row
change_field_syncs = search (sendable, memory.crosses, value_field_syncs, content_syncs) depth 40

pub change_sends : IsSend change_row
change_sends = search (sendable, change_field_sends)

pub change_syncs : IsSync change_row
change_syncs = search (sendable, change_field_syncs)

pub query_field_sends : IsSend query_field.row
query_field_sends = search (sendable) depth 40

pub query_field_syncs : IsSync query_field.row
query_field_syncs = search (sendable) depth 40

pub query_sends : IsSend query_row
query_sends = search (sendable, query_field_sends)

pub query_syncs : IsSync query_row
query_syncs = search (sendable, query_field_syncs)

pub answer_field_sends : IsSend answer_field.row
answer_field_sends = search (sendable, memory.crosses, value_field_sends, content_sends) depth 40

pub answer_field_syncs : IsSync answer_field.row
answer_field_syncs = search (sendable, memory.crosses, value_field_syncs, content_syncs) depth 40

pub answer_sends : IsSend answer_row
answer_sends = search (sendable, answer_field_sends)

pub answer_syncs : IsSync answer_row
answer_syncs = search (sendable, answer_field_syncs)

pub small_field_sends : IsSend small_field.row
small_field_sends = search (sendable) depth 40

pub small_field_syncs : IsSync small_field.row
small_field_syncs = search (sendable) depth 40

pub small_sends : IsSend small_row
small_sends = search (sendable, small_field_sends)

pub small_syncs : IsSync small_row
small_syncs = search (sendable, small_field_syncs)

pub ruleset crosses = (
  memory.crosses,
  value_field_sends,
  value_field_syncs,
  value_sends,
  value_syncs,
  content_field_sends,
  content_field_syncs,
  content_sends,
  content_syncs,
  name_sends,
  name_syncs,
  ty_field_sends,
  ty_field_syncs,
  ty_sends,
  ty_syncs,
  shape_sends,
  shape_syncs,
  change_field_sends,
  change_field_syncs,
  change_sends,
  change_syncs,
  query_field_sends,
  query_field_syncs,
  query_sends,
  query_syncs,
  answer_field_sends,
  answer_field_syncs,
  answer_sends,
  answer_syncs,
  small_field_sends,
  small_field_syncs,
  small_sends,
  small_syncs,
)
