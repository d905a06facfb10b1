-- As that of each handle.
use Rattle.argus_embed.proofs.{Boxes.parsed_handle, Handles.of_raw_box_meets, held_parsed.HeldParsed.of_raw_box.Statement.statement}
use Rattle.argus_embed.proofs.held_parsed.HeldParsed.of_raw_box.Code as code

pub of_raw_box_spec : {M : Type 1} → statement M
of_raw_box_spec 𝓤 𝓛 𝓜 𝓡 wired = of_raw_box_meets parsed_handle 𝓛 𝓜 𝓡 _ (code.unfolded 𝓤 𝓛.H 𝓜 𝓡 wired)
