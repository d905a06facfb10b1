-- What a handle of a guardian whose commit is ready owns: a box, as long as it has one.
use base.Fml.{Fml}
use base.Stored.{Coded}
use denote.RawPtr.{Ptr}
use Rattle.std.specs.{Prelude.Option, Coded.coded_option, Global.Global}
use Rattle.argus_embed.specs.{Held.box_if_any, contracts.ready_guardian.ReadyGuardian.the_row}
use Rattle.argus_embed.specs.ReadyEmbedded.{ReadyState, ready_state_coded}

-- the handle owns the box at its pointer, if it has one
abbrev pub held_ready_owns : Global → Ptr → Option ReadyState → Fml
held_ready_owns = box_if_any the_row

-- what is held is stored
abbrev pub held_ready_coded : Coded (Option ReadyState)
held_ready_coded = coded_option ready_state_coded
