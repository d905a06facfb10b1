-- Where each step is allowed.
use Rattle.std.specs.Prelude.{◌≡◌, Bool, true, false, not}
use Rattle.argus_contents.specs.{Change.PlainChange, declared.limits.TheConstants.MAX_VALUE_DEPTH}
use Rattle.argus_contents.specs.Change as change
use Rattle.argus_texts.specs.{Spelling.Within, ContentSpelling.PartsWithin}
use Rattle.argus_language.specs.{PlainStep.{SimpleStep, PlainStep, PlainSteps}, declared.block_kind.BlockKind.BlockKind}
use Rattle.argus_language.specs.{declared.action_kind.ActionKind.ActionKind, declared.place.Place.Place}
use Rattle.argus_language.specs.PlainStep as part
use Rattle.argus_language.specs.declared.action_kind.ActionKind.TheVariants as kind
use Rattle.argus_language.specs.declared.block_kind.BlockKind.TheVariants as opening
use Rattle.argus_language.specs.declared.place.Place.TheVariants as place

-- in no block
abbrev pub is_top : Place → Bool
is_top place.Top = true
is_top p = false

-- in an action: in an `enter` block, an arm or an `if` block
abbrev pub is_body : Place → Bool
is_body (place.Body b) = true
is_body (place.Arm b) = true
is_body p = false

-- directly in a coenter
abbrev pub is_coenter : Place → Bool
is_coenter (place.Coenter b) = true
is_coenter p = false

-- an arm may end all others: only `if` blocks are between it and here, and its coenter is in an
-- action
abbrev pub may_leave_all : Place → Bool
may_leave_all (place.Body b) = b
may_leave_all (place.Arm b) = b
may_leave_all p = false

-- an arm of this kind is allowed there: in a coenter, and a subaction's only if the coenter is in
-- an action
abbrev pub takes_arm : ActionKind → Place → Bool
takes_arm k place.Top = false
takes_arm kind.Topaction (place.Coenter b) = true
takes_arm kind.Subaction (place.Coenter b) = b
takes_arm k p = false

-- a block or an arm may begin there
abbrev pub may_begin : BlockKind → Place → Bool
may_begin (opening.Enter kind.Topaction) p = not (is_coenter p)
may_begin (opening.Enter kind.Subaction) p = is_body p
may_begin (opening.If l x) p = is_body p
may_begin opening.Coenter p = not (is_coenter p)
may_begin (opening.Arm k) p = takes_arm k p

-- the place in an arm of a coenter
abbrev pub in_arm : Place → Place
in_arm (place.Coenter b) = place.Arm b
in_arm p = p

-- the place in a block or an arm that began at a place
abbrev pub place_in : BlockKind → Place → Place
place_in (opening.Enter k) p = place.Body false
place_in (opening.If l x) p = place.Body (may_leave_all p)
place_in opening.Coenter p = place.Coenter (not (is_top p))
place_in (opening.Arm k) p = in_arm p

-- a deed is allowed there
abbrev pub may_stand : SimpleStep → Place → Bool
may_stand part.declare p = is_top p
may_stand part.leave_all p = may_leave_all p
may_stand d p = is_body p

-- the content or the value of a change has a written form that is read
abbrev pub IsReadable : PlainChange → Type 0
IsReadable (change.create c) = PartsWithin MAX_VALUE_DEPTH c
IsReadable (change.set_field f v) = Within MAX_VALUE_DEPTH v
IsReadable (change.store i v) = Within MAX_VALUE_DEPTH v
IsReadable (change.addh v) = Within MAX_VALUE_DEPTH v
IsReadable (change.addl v) = Within MAX_VALUE_DEPTH v
IsReadable (change.change_tag t v) = Within MAX_VALUE_DEPTH v
IsReadable c = Unit {0}

-- the argument of a deed has a written form that is read
abbrev pub HasForm : SimpleStep → Type 0
HasForm (part.alter x c) = IsReadable c
HasForm d = Unit {0}

abbrev mutual
  -- the step is allowed at a place, and so is each step in it
  pub MayStand : Place → PlainStep → Type 0
  MayStand p (part.simple d) = (may_stand d p ≡ true) × HasForm d
  MayStand p (part.block o ps) = (may_begin o p ≡ true) × AllMayStand (place_in o p) ps

  -- each of the steps is allowed at a place
  pub AllMayStand : Place → PlainSteps → Type 0
  AllMayStand p part.none = Unit {0}
  AllMayStand p (part.more x ps) = MayStand p x × AllMayStand p ps
