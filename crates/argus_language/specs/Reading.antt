-- What a script that is being read says so far.
use Rattle.std.specs.Prelude.{◌≡◌, ◌<◌, Bool, true, false, if◌then◌else◌, List, [], ◌∷◌, ◌++◌, map, flat_map, length}
use Rattle.std.specs.Prelude.{reverse}
use Rattle.argus_contents.specs.{Name.is_name, declared.limits.TheConstants.MAX_OBJECTS}
use Rattle.argus_language.specs.{Command.Command, Levels.{depth_of, is_arm, place_of}, Objects.PlainObjects}
use Rattle.argus_language.specs.{PlainStep.{PlainStep, plain_steps}, Spelled.{Sentence, lines_of_parts}}
use Rattle.argus_language.specs.Placement.{AllMayStand, MayStand, is_body, may_begin, place_in}
use Rattle.argus_language.specs.{declared.fault_kind.FaultKind.FaultKind, declared.level.Level.Level}
use Rattle.argus_language.specs.{declared.limits.TheConstants.MAX_OPEN_BLOCKS, declared.line_error.LineError.LineError}
use Rattle.argus_language.specs.{declared.open_block.OpenBlock.OpenBlock, declared.block_kind.BlockKind.BlockKind}
use Rattle.argus_language.specs.{declared.place.Place.Place, declared.step.Step.Step}
use Rattle.argus_language.specs.Command as command
use Rattle.argus_language.specs.Spelled as sentence
use Rattle.argus_language.specs.declared.line_error.LineError.TheVariants as error
use Rattle.argus_language.specs.declared.block_kind.BlockKind.TheVariants as opening

-- P holds of the kind of a fault; out of memory says nothing
abbrev pub OnKind : LineError → (FaultKind → Type 0) → Type 0
OnKind (error.Fault k) P = P k
OnKind error.OutOfMemory P = Unit {0}

-- the step is allowed anywhere in an action
abbrev pub StandsInAction : PlainStep → Type 0
StandsInAction part = (p : Place) → is_body p ≡ true → MayStand p part

-- the levels of what is open, the innermost first
abbrev pub levels_of : List OpenBlock → List Level
levels_of blocks = map (λ b. b.level) (reverse blocks)

-- the lines before what is in a block: the steps before it, and its first line
abbrev pub front : OpenBlock → List Sentence
front b = lines_of_parts (plain_steps b.before.items) ++ sentence.begin b.opening ∷ []

-- the lines of what is open, the outermost first, and of the steps in the innermost
abbrev pub lines_so_far : List OpenBlock → List Step → List Sentence
lines_so_far blocks steps = flat_map front blocks ++ lines_of_parts (plain_steps steps)

-- the line of an arm
abbrev pub is_arm_line : BlockKind → Bool
is_arm_line (opening.Arm k) = true
is_arm_line o = false

-- a block began where it is allowed, after steps that are allowed where they are
pub record BeganAt (p : Place) (b : OpenBlock) : Type 0 where
  pub may : may_begin b.opening p ≡ true
  pub place : b.level.place ≡ place_in b.opening p
  pub arm : is_arm b.level.place ≡ is_arm_line b.opening
  pub before : AllMayStand p (plain_steps b.before.items)

-- each open block began where it is allowed, the innermost first
abbrev pub AllBegan : List OpenBlock → Type 0
AllBegan [] = Unit {0}
AllBegan (b ∷ bs) = BeganAt (place_of (map (λ x. x.level) bs)) b × AllBegan bs

-- all that was read is allowed where it is
pub record IsSound (blocks : List OpenBlock) (steps : List Step) : Type 0 where
  pub began : AllBegan (reverse blocks)
  pub stand : AllMayStand (place_of (levels_of blocks)) (plain_steps steps)

-- the line that closes what is open at a place; an arm has none
abbrev pub closing_at : Place → List Sentence
closing_at p = if is_arm p then [] else sentence.«end» ∷ []

-- there is room for one more of what a command opens or declares, and a declared name has the form
-- of one
abbrev pub IsWithinLimits : Command → List Level → PlainObjects → Type 0
IsWithinLimits (command.enter k) ls os = depth_of ls < MAX_OPEN_BLOCKS
IsWithinLimits command.coenter ls os = depth_of ls < MAX_OPEN_BLOCKS
IsWithinLimits (command.test l name) ls os = depth_of ls < MAX_OPEN_BLOCKS
IsWithinLimits (command.declare name shape) ls os = (length os.names < MAX_OBJECTS) × (is_name name
    ≡ true)
IsWithinLimits c ls os = Unit {0}
