-- What a handle owns may cross to another thread: a call that was read, and the right to free it.
use denote.Struct.Struct.{exits_of}
use denote.Struct.Owning.{fields, shape, to}
use denote.Param.Send.{AllSend, IsSend, owning_send, sendable, struct_send}
use Rattle.std_alloc.proofs.SendSync.{quiet}
use Rattle.std_heap.proofs.Global.TheSendSync as handle
use Rattle.argus_embed.proofs.HandleCrossing.{box_sends}
use Rattle.argus_embed.specs.contracts.held_parsed.HeldParsed.{the_row, the_type}
use Rattle.argus_embed.proofs.Crossing.{parsed_call_sends}
use Rattle.argus_embed.specs.contracts.parsed_call.ParsedCall.{the_row as home}

pub send : IsSend the_row
send =
    let all : AllSend (fields the_type) = (search sendable, (handle.the_field_send, tt)) in
    owning_send the_type all (λ d. box_sends home parsed_call_sends d.alloc d.at d.store)
    (λ k. quiet (to the_type) (exits_of k (fields the_type)) ((struct_send (shape the_type) all).leaving k))
