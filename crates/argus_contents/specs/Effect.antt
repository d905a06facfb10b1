-- What a topaction leaves in objects.
use Rattle.std.specs.Prelude.{List, Option, map, ℕ}
use Rattle.argus_contents.specs.{Content.{PlainContent, plain_option}, declared.content.Content.Content}
use Rattle.argus_contents.specs.declared.obj_id.ObjId.{ObjId}

-- an effect: objects by number, each with what is left in it
abbrev pub Effect : Type 0
Effect = List (ℕ × Option PlainContent)

-- what objects with their contents say
abbrev pub plain_effect : List (ObjId × Option Content) → Effect
plain_effect pairs = map (λ pair. (pair.0.0, plain_option pair.1)) pairs
