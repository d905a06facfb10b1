-- What a handle owns may cross to another thread: a guardian whose commit is ready, and the right to free it.
use denote.Struct.Struct.{exits_of}
use denote.Struct.Owning.{fields, shape, to}
use denote.Param.Send.{AllSend, IsSend, owning_send, sendable, struct_send}
use Rattle.std_alloc.proofs.SendSync.{quiet}
use Rattle.std_heap.proofs.Global.TheSendSync as handle
use Rattle.argus_embed.proofs.HandleCrossing.{box_sends, ready_guardian_sends}
use Rattle.argus_embed.specs.contracts.ready_guardian.ReadyGuardian.{the_row as home}
use Rattle.argus_embed.specs.contracts.held_ready.HeldReady.{the_row, the_type}

pub send : IsSend the_row
send =
    let all : AllSend (fields the_type) = (search sendable, (handle.the_field_send, tt)) in
    owning_send the_type all (λ d. box_sends home ready_guardian_sends d.alloc d.at d.store)
    (λ k. quiet (to the_type) (exits_of k (fields the_type)) ((struct_send (shape the_type) all).leaving k))
