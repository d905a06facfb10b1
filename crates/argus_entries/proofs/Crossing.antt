-- Calls, replies and entries may cross to another thread, and be looked at from there: as a set for `search`,
-- `crosses`.
use denote.Param.Send.{IsSend, IsSync, sendable}
use Rattle.argus_contents.proofs.Crossing.{answer_field_sends, answer_field_syncs, change_field_sends, shape_syncs}
use Rattle.argus_contents.proofs.Crossing.{change_field_syncs, query_field_sends, query_field_syncs, shape_sends}
use Rattle.argus_entries.specs.contracts.call.Call.{the_field as call_field, the_row as call_row}
use Rattle.argus_entries.specs.contracts.{entry.Entry.the_row as entry_row, reply.Reply.the_field as reply_field}
use Rattle.argus_entries.specs.contracts.reply.Reply.{the_row as reply_row}
use Rattle.argus_contents.proofs.Crossing as contents

pub call_field_sends : IsSend call_field.row
call_field_sends = search (sendable, change_field_sends, query_field_sends, shape_sends) depth 40

pub call_field_syncs : IsSync call_field.row
call_field_syncs = search (sendable, change_field_syncs, query_field_syncs, shape_syncs) depth 40

pub call_sends : IsSend call_row
call_sends = search (sendable, call_field_sends)

pub call_syncs : IsSync call_row
call_syncs = search (sendable, call_field_syncs)

pub reply_field_sends : IsSend reply_field.row
reply_field_sends = search (sendable, answer_field_sends) depth 40

pub reply_field_syncs : IsSync reply_field.row
reply_field_syncs = search (sendable, answer_field_syncs) depth 40

pub reply_sends : IsSend reply_row
reply_sends = search (sendable, reply_field_sends)

pub reply_syncs : IsSync reply_row
reply_syncs = search (sendable, reply_field_syncs)

pub entry_sends : IsSend entry_row
entry_sends = search (sendable, call_field_sends, reply_field_sends) depth 12

pub entry_syncs : IsSync entry_row
entry_syncs = search (sendable, call_field_syncs, reply_field_syncs) depth 12

pub ruleset crosses = (
  contents.crosses,
  call_field_sends,
  call_field_syncs,
  call_sends,
  call_syncs,
  reply_field_sends,
  reply_field_syncs,
  reply_sends,
  reply_syncs,
  entry_sends,
  entry_syncs,
)
