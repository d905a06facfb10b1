-- What an export says of a guardian whose commit is ready, in a ready slot, before and after.
use Rattle.std.specs.Prelude.{None, Option, Some, ℕ, ℤ, ◌<◌, ◌≡◌, ◌⊎◌}
use Rattle.argus_embed.specs.{Codes.outcome_codes, Embedded.EmbeddedState}
use Rattle.argus_embed.specs.ReadyEmbedded.{ReadyState, after_commit, commit_outcome}

-- the guardian that was in the slot is in the ready slot, and the commit of this action is ready
abbrev pub IsReadied : Option EmbeddedState → ℕ → Option ReadyState → Type 0
IsReadied None action ready = ⊥
IsReadied (Some state) action ready = ready ≡ Some (record { guardian = state; action = action })

-- what was ready was committed, and the slot has the guardian; these are the outcome's codes
abbrev pub IsCommitted : Option ReadyState → Option EmbeddedState → ℕ × ℤ → Type 0
IsCommitted None slot codes = ⊥
IsCommitted (Some ready) slot codes =
    (slot ≡ Some (after_commit ready)) × (codes ≡ outcome_codes (commit_outcome ready))

-- the slot has the guardian that was ready, unchanged
abbrev pub IsBack : Option ReadyState → Option EmbeddedState → Type 0
IsBack None slot = ⊥
IsBack (Some ready) slot = slot ≡ Some ready.guardian

-- the status for a host that makes a commit ready: the slot is closed; or the ready slot has one; or
-- it is ready, or there is no memory for it
abbrev pub IsStatusOfReady : Option EmbeddedState → Option ReadyState → ℕ → Type 0
IsStatusOfReady None ready status = status ≡ 11
IsStatusOfReady (Some state) (Some other) status = status ≡ 30
IsStatusOfReady (Some state) None status = (status ≡ 0) ⊎ (status ≡ 10)

-- the status for a host that asks for the line: the ready slot has none; or it has it, there is no
-- memory for it, or it is longer than the room
abbrev pub IsStatusOfLine : Option ReadyState → ℕ → Type 0
IsStatusOfLine None status = status ≡ 11
IsStatusOfLine (Some ready) status = (status ≡ 0) ⊎ (status ≡ 10) ⊎ (status ≡ 17)

-- the status for a host that makes what is ready: the ready slot has none; or the slot has one; or
-- that of the commit's outcome
abbrev pub IsStatusOfMake : Option ReadyState → Option EmbeddedState → ℕ → Type 0
IsStatusOfMake None slot status = status ≡ 11
IsStatusOfMake (Some ready) (Some other) status = status ≡ 30
IsStatusOfMake (Some ready) None status = status < 10

-- the status for a host that cancels what is ready: the ready slot has none; or the slot has one; or
-- it is cancelled
abbrev pub IsStatusOfCancel : Option ReadyState → Option EmbeddedState → ℕ → Type 0
IsStatusOfCancel None slot status = status ≡ 11
IsStatusOfCancel (Some ready) (Some other) status = status ≡ 30
IsStatusOfCancel (Some ready) None status = status ≡ 0
