-- What an export says of a call that was read, in a slot of its own, before and after.
use Rattle.std.specs.Prelude.{List, None, Option, Some, ℕ, ℤ, ◌<◌, ◌≡◌, ◌⊎◌}
use Rattle.argus_embed.specs.{Codes.outcome_codes, Embedded.EmbeddedState, ParsedCall.{IsMadeOf, IsParsed, ParsedState}}
use Rattle.argus_embed.specs.{declared.outcome.Outcome.Outcome, declared.request.Request.Request}

-- the slot has the call that the request with its text stands for
abbrev pub HasParsed : Request → List ℕ → Option ParsedState → Type 0
HasParsed r text None = ⊥
HasParsed r text (Some parsed) = IsParsed r text parsed

-- the call that was in the slot was made, and these are the codes of what came of it
abbrev pub IsMadeFrom : Option ParsedState → ℕ × ℤ → EmbeddedState → EmbeddedState → Type 0
IsMadeFrom None codes old new = ⊥
IsMadeFrom (Some parsed) codes old new =
    (outcome : Outcome) × IsMadeOf parsed old new outcome × (codes ≡ outcome_codes outcome)

-- the status for a host that makes the call: the guardian's slot is closed; or there is no call; or
-- it is that of the outcome, or there is no memory for it
abbrev pub IsStatusOfParsed : Option EmbeddedState → Option ParsedState → ℕ → Type 0
IsStatusOfParsed None parsed status = status ≡ 11
IsStatusOfParsed (Some state) None status = status ≡ 18
IsStatusOfParsed (Some state) (Some parsed) status = (status < 10) ⊎ (status ≡ 10)

-- the status for a host that drops the call: there is none, or it is dropped
abbrev pub IsStatusOfDrop : Option ParsedState → ℕ → Type 0
IsStatusOfDrop None status = status ≡ 18
IsStatusOfDrop (Some parsed) status = status ≡ 0
