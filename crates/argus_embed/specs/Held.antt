-- What a handle that a host keeps owns: a box, as long as it is open.
use base.Fml.{Fml, ftrue}
use base.Stored.{Coded}
use denote.RattleType.{RattleType}
use denote.RawPtr.{Ptr}
use Rattle.std.specs.{Prelude.{None, Option, Some}, Coded.coded_option, Box.Ownership.box_owns, Global.Global}
use Rattle.std_heap.specs.contracts.GlobalAllocator.TheImpl.{ghosts}
use Rattle.argus_embed.specs.{Embedded.{EmbeddedState, embedded_state_coded}, contracts.embedded.Embedded.the_row}

-- a handle with a value owns the box of it at its pointer, one without owns nothing
abbrev pub box_if_any : (R : RattleType) → Global → Ptr → Option R.Denot → Fml
box_if_any R alloc at (Some x) = box_owns (ghosts.dealloc_token alloc) R at x
box_if_any R alloc at None = ftrue

-- an open handle owns the box at its pointer, a closed one nothing
abbrev pub held_owns : Global → Ptr → Option EmbeddedState → Fml
held_owns = box_if_any the_row

-- what is held is stored
abbrev pub held_coded : Coded (Option EmbeddedState)
held_coded = coded_option embedded_state_coded
