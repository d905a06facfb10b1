-- A row: what contracts see of one action.
use Rattle.std.specs.{Prelude.{ℕ, Bool, true, false, not, ◌==◌, Option, Some, None}, Option.option_map_or}
use Rattle.argus_actions.specs.{declared.origin.Origin.Origin, declared.origin.Origin.TheVariants.{Top, Sub, Nested}}
use Rattle.argus_actions.specs.declared.status.Status.{Status}
use Rattle.argus_actions.specs.declared.status.Status.TheVariants.{Live, Committed, Aborted, Folded}

-- how the action was begun, and what has become of it
pub record Row : Type 0 where
  pub origin : Origin
  pub status : Status

-- what holds of a subaction's parent; a topaction, nested or not, has no parent (Argus Reference
-- Manual, 1987, on nested topactions)
abbrev pub at_parent : {X : Type 0} → X → Origin → (ℕ → X) → X
at_parent none Top up = none
at_parent none (Sub parent) up = up parent
at_parent none (Nested creator) up = none

-- the action that it was begun under: its parent, or its creator
abbrev pub under_of : Origin → Option ℕ
under_of Top = None
under_of (Sub parent) = Some parent
under_of (Nested creator) = Some creator

-- it was begun under this action, as its subaction
abbrev pub is_sub_of : ℕ → Origin → Bool
is_sub_of a origin = at_parent false origin (λ parent. parent == a)

-- it was begun under this action, as its subaction or as its nested topaction
abbrev pub is_begun_under : ℕ → Origin → Bool
is_begun_under a origin = option_map_or (λ under. under == a) (under_of origin) false

-- the action goes on
abbrev pub is_live : Status → Bool
is_live Live = true
is_live Committed = false
is_live Aborted = false
is_live Folded = false

-- what a subaction's status may be, by its parent's: it ends no later, and is aborted with it
abbrev pub may_follow : Status → Status → Bool
may_follow Live sub = true
may_follow Committed sub = not (is_live sub)
may_follow Aborted Aborted = true
may_follow Aborted Live = false
may_follow Aborted Committed = false
may_follow Aborted Folded = false
may_follow Folded sub = false

-- the row with this status
abbrev pub with_status : Status → Row → Row
with_status status row = record { origin = row.origin; status = status }
