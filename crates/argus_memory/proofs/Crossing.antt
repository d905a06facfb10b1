-- A heap may go to another thread, or be looked at from there, and so may what is in its rooms, if its parts may: as a
-- set for `search`, `crosses`.
use denote.RattleType.{RattleType}
use denote.Param.Send.{IsSend, IsSync, Frees}
use Rattle.std.proofs.Crossing.{send, sync, frees}
use Rattle.std.proofs.boxed.Box.TheSendSync as box
use Rattle.std.proofs.sync.Arc.TheSendSync as shared
use Rattle.std.proofs.string.String.TheSendSync as text
use Rattle.std.proofs.vec.Vec.TheSendSync as list
use Rattle.std.proofs.collections.VecDeque.TheSendSync as queue
use Rattle.std.specs.contracts.alloc.Global.{the_row as global}
use Rattle.std.specs.contracts.boxed.Box.{the_row as box_row}
use Rattle.std.specs.contracts.sync.Arc.{the_row as shared_row}
use Rattle.std.specs.contracts.string.String.{the_row as text_row}
use Rattle.std.specs.contracts.vec.Vec.{the_row as list_row}
use Rattle.std.specs.contracts.collections.VecDeque.{the_row as queue_row}
use Rattle.std.specs.contracts.impls.GlobalAllocator.TheImpl as global_impl
use Rattle.std.specs.declared.alloc.Allocator.{Ghosts}
use Rattle.argus_memory.specs.contracts.heap.Heap.{the_row as heap}
use Rattle.argus_memory.specs.contracts.limited.Limited.{the_row as limited}
use Rattle.argus_memory.specs.contracts.limited.LimitedAllocator.TheImpl.{ghosts, no_dict}
use Rattle.argus_memory.proofs.heap.Heap.TheSendSync.{the_send as the_heap_send, the_sync as the_heap_sync}
use Rattle.argus_memory.proofs.limited.Limited.TheSendSync.{the_send, the_sync}
use Rattle.argus_memory.proofs.limited.LimitedAllocator.TheSendSync.{the_frees}

-- a room of the heap, and what its memory rests on
abbrev pub room : RattleType
room = limited global

abbrev pub rests : Ghosts room.Denot
rests = ghosts global global_impl.ghosts no_dict no_dict

pub room_frees : Frees rests rests.dealloc_token
room_frees = the_frees global global_impl.ghosts no_dict no_dict frees

pub room_sends : IsSend room
room_sends = the_send global send

pub room_syncs : IsSync room
room_syncs = the_sync global sync

module _ (T : RattleType) where
  pub list_sends : IsSend T → IsSend (list_row T room rests)
  list_sends s = list.the_send T room rests s room_sends room_frees

  pub list_syncs : IsSync T → IsSync (list_row T room rests)
  list_syncs s = list.the_sync T room rests s room_syncs

  pub queue_sends : IsSend T → IsSend (queue_row T room rests)
  queue_sends s = queue.the_send T room rests s room_sends room_frees

  pub queue_syncs : IsSync T → IsSync (queue_row T room rests)
  queue_syncs s = queue.the_sync T room rests s room_syncs

  pub box_sends : IsSend T → IsSend (box_row T room rests)
  box_sends s = box.the_send T room rests s room_sends room_frees

  pub box_syncs : IsSync T → IsSync (box_row T room rests)
  box_syncs s = box.the_sync T room rests s room_syncs

  pub shared_sends : IsSend T → IsSync T → IsSend (shared_row T room rests)
  shared_sends s y = shared.the_send T room rests s room_sends y room_syncs room_frees

  pub shared_syncs : IsSend T → IsSync T → IsSync (shared_row T room rests)
  shared_syncs s y = shared.the_sync T room rests s room_sends y room_syncs room_frees

pub text_sends : IsSend (text_row room rests)
text_sends = text.the_send room rests room_sends room_frees

pub text_syncs : IsSync (text_row room rests)
text_syncs = text.the_sync room rests room_syncs

-- the heap itself, which is copied to where it is wanted
pub heap_sends : IsSend heap
heap_sends = the_heap_send

pub heap_syncs : IsSync heap
heap_syncs = the_heap_sync

pub ruleset crosses = (
  heap_sends,
  heap_syncs,
  room_sends,
  room_syncs,
  room_frees,
  list_sends,
  list_syncs,
  queue_sends,
  queue_syncs,
  box_sends,
  box_syncs,
  shared_sends,
  shared_syncs,
  text_sends,
  text_syncs,
)
