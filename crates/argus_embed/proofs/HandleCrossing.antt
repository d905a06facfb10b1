-- What a handle owns may cross to another thread: a value, and the right to free its box.
use mir.Raw.{raw}
use base.Shift.{Keyless}
use denote.Memory.{lone}
use denote.RattleType.{RattleType}
use denote.RawPtr.{Ptr}
use denote.Struct.Declared.{row as declared_row, shape}
use denote.Param.Send.{IsSend, recorded_send, sendable, struct_send, view_send}
use Rattle.std.proofs.Crossing.{crosses as std_crosses}
use Rattle.std.proofs.Crossing as heap
use Rattle.std.specs.{Prelude.{None, Option, Some}, Global.Global}
use Rattle.std_alloc.proofs.SendSync.{lies}
use Rattle.std_heap.proofs.Global.TheSendSync as handle
use Rattle.argus_embed.specs.Held.{box_if_any}
use Rattle.argus_embed.specs.contracts.ready_guardian.ReadyGuardian.{the_row as ready_row}
use Rattle.argus_embed.specs.contracts.ready_guardian.ReadyGuardian.TheInside.{the_type as ready_inside}
use Rattle.argus_embed.proofs.Crossing.{embedded_sends, ready_embedded_sends}

pub box_sends : (R : RattleType) → IsSend R → (alloc : Global) (at : Ptr) (s : Option R.Denot)
    → Keyless (box_if_any R alloc at s)
box_sends R sends alloc at (Some x) = (lies R sends at x, heap.frees.frees alloc (raw (lone R.mir)) at)
box_sends R sends alloc at None = tt

ready_inside_sends : IsSend (declared_row ready_inside)
ready_inside_sends = let t = ready_inside in
    recorded_send _ t.D t.to t.to_one (struct_send (shape t) (
      ready_embedded_sends,
      (search (sendable, std_crosses, embedded_sends) depth 40, tt),
    ))

-- a guardian whose commit is ready, with its box
pub ready_guardian_sends : IsSend ready_row
ready_guardian_sends = view_send _ _ _ _ _ ready_inside_sends
