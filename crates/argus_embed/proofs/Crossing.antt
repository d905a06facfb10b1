-- An embedded guardian may go to another thread, and so may one whose commit is ready, and a call that was read.
use denote.Struct.Declared.{shape, row as declared_row}
use denote.Param.Send.{IsSend, recorded_send, sendable, struct_send, view_send}
use Rattle.argus_embed.specs.contracts.embedded.Embedded.{the_row as embedded_row}
use Rattle.argus_embed.specs.contracts.embedded.Embedded.TheInside.{the_type as embedded_inside}
use Rattle.argus_embed.specs.contracts.kept_answer.KeptAnswer.{the_field as kept_field}
use Rattle.argus_embed.specs.contracts.parsed_call.ParsedCall.{the_row as parsed_row}
use Rattle.argus_embed.specs.contracts.parsed_call.ParsedCall.TheInside.{the_type as parsed_inside}
use Rattle.argus_embed.specs.contracts.ready_embedded.ReadyEmbedded.{the_row as ready_row}
use Rattle.argus_embed.specs.contracts.ready_embedded.ReadyEmbedded.TheInside.{the_type as ready_inside}
use Rattle.argus_journal.proofs.EntriesCrossing as entries
use Rattle.argus_guardian.proofs.GuardianCrossing.{guardian_sends, ready_commit_sends}
use Rattle.argus_guardian.proofs.ResumingCrossing.{resuming_sends}
use Rattle.argus_values.proofs.MemoryCrossing as memory
use Rattle.argus_values.proofs.HeapCrossing.{the_field_send as heap_field_sends}

kept_field_sends : IsSend kept_field.row
kept_field_sends = search (sendable, entries.reply_field_sends, memory.crosses) depth 40

embedded_inside_sends : IsSend (declared_row embedded_inside)
embedded_inside_sends = let t = embedded_inside in
    recorded_send _ t.D t.to t.to_one (struct_send (shape t) (
      heap_field_sends,
      (guardian_sends, (kept_field_sends, (resuming_sends, tt))),
    ))

pub embedded_sends : IsSend embedded_row
embedded_sends = view_send _ _ _ _ _ embedded_inside_sends

ready_inside_sends : IsSend (declared_row ready_inside)
ready_inside_sends = let t = ready_inside in
    recorded_send _ t.D t.to t.to_one (struct_send (shape t) (ready_commit_sends, (embedded_sends, tt)))

pub ready_embedded_sends : IsSend ready_row
ready_embedded_sends = view_send _ _ _ _ _ ready_inside_sends

parsed_inside_sends : IsSend (declared_row parsed_inside)
parsed_inside_sends = let t = parsed_inside in
    recorded_send _ t.D t.to t.to_one (struct_send (shape t) (
      search (sendable, entries.call_sends, entries.call_field_sends) depth 40,
      tt,
    ))

pub parsed_call_sends : IsSend parsed_row
parsed_call_sends = view_send _ _ _ _ _ parsed_inside_sends
