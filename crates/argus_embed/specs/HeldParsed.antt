-- What a handle of a call that was read owns: a box, as long as it has one.
use base.Fml.{Fml}
use base.Stored.{Coded}
use denote.RawPtr.{Ptr}
use Rattle.std.specs.{Prelude.Option, Coded.coded_option, Global.Global}
use Rattle.argus_embed.specs.Held.{box_if_any}
use Rattle.argus_embed.specs.{ParsedCall.{ParsedState, parsed_state_coded}, contracts.parsed_call.ParsedCall.the_row}

-- the handle owns the box at its pointer, if it has one
abbrev pub held_parsed_owns : Global → Ptr → Option ParsedState → Fml
held_parsed_owns = box_if_any the_row

-- what is held is stored
abbrev pub held_parsed_coded : Coded (Option ParsedState)
held_parsed_coded = coded_option parsed_state_coded
