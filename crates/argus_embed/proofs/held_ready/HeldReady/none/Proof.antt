-- As that of each handle.
use Rattle.argus_embed.proofs.{Boxes.ready_handle, Handles.none_meets, held_ready.HeldReady.none.Statement.statement}
use Rattle.argus_embed.proofs.held_ready.HeldReady.none.Code as code

pub none_spec : {M : Type 1} → statement M
none_spec 𝓤 𝓛 𝓜 𝓡 wired = none_meets ready_handle 𝓛 𝓜 𝓡 _ (code.unfolded 𝓤 𝓛.H 𝓜 𝓡 wired)
