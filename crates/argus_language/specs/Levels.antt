-- The blocks and arms that are open after a line.
use Rattle.std.specs.Prelude.{ℕ, ◌+◌, Bool, true, false, not, if◌then◌else◌, List, [], ◌∷◌, drop}
use Rattle.argus_language.specs.{Command.Command, declared.level.Level.Level, declared.place.Place.Place}
use Rattle.argus_language.specs.Placement.{in_arm, is_body, is_top, may_begin, may_leave_all, takes_arm}
use Rattle.argus_language.specs.Command as command
use Rattle.argus_language.specs.declared.block_kind.BlockKind.TheVariants as opening
use Rattle.argus_language.specs.declared.place.Place.TheVariants as place

-- A list of levels has the lines that are still unmatched, the innermost first: each line that
-- opened a block, and in a coenter the last of its arm lines.

-- the place in the innermost
abbrev pub place_of : List Level → Place
place_of [] = place.Top
place_of (l ∷ ls) = l.place

-- how many blocks are open
abbrev pub depth_of : List Level → ℕ
depth_of [] = 0
depth_of (l ∷ ls) = l.depth

-- the level is an arm
abbrev pub is_arm : Place → Bool
is_arm (place.Arm b) = true
is_arm p = false

-- an arm ends where the next one begins, or its coenter ends
abbrev pub behind_arm : List Level → List Level
behind_arm [] = []
behind_arm (l ∷ ls) = if is_arm l.place then ls else l ∷ ls

-- one more block, which the line with this number opened
abbrev pub with_block : Place → ℕ → List Level → List Level
with_block p n ls = record { place = p; line = n; depth = depth_of ls + 1 } ∷ ls

-- one more arm: it has the number and the count of its coenter
abbrev pub with_arm : List Level → List Level
with_arm [] = []
with_arm (l ∷ ls) = record { place = in_arm l.place; line = l.line; depth = l.depth } ∷ l ∷ ls

-- the levels after a command at the line with this number
abbrev pub levels_after : Command → ℕ → List Level → List Level
levels_after (command.enter k) n ls = with_block (place.Body false) n ls
levels_after (command.test l name) n ls = with_block (place.Body (may_leave_all (place_of ls))) n ls
levels_after command.coenter n ls = with_block (place.Coenter (not (is_top (place_of ls)))) n ls
levels_after (command.arm k) n ls = with_arm (behind_arm ls)
levels_after command.«end» n ls = drop 1 (behind_arm ls)
levels_after c n ls = ls

-- a line with this command is allowed after these levels
abbrev pub may_follow : Command → List Level → Bool
may_follow command.nothing ls = true
may_follow command.bad ls = true
may_follow (command.declare name shape) ls = is_top (place_of ls)
may_follow (command.enter k) ls = may_begin (opening.Enter k) (place_of ls)
may_follow command.coenter ls = may_begin opening.Coenter (place_of ls)
may_follow (command.arm k) ls = takes_arm k (place_of (behind_arm ls))
may_follow command.leave_all ls = may_leave_all (place_of ls)
may_follow command.«end» ls = not (is_top (place_of ls))
may_follow c ls = is_body (place_of ls)
