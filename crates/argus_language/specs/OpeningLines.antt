-- Where a line is allowed, by the opening lines that are still unmatched before it, and the arm
-- lines directly in them. Lines are counted from 0.
use Rattle.std.specs.Prelude.{ℕ, zero, suc, ◌==◌, Bool, true, false, not, ◌&&◌, ◌||◌, if◌then◌else◌, List, [], ◌∷◌}
use Rattle.std.specs.Prelude.{drop, get_or}
use Rattle.argus_language.specs.{Command.{Command, command_of}, Lines.line_text}
use Rattle.argus_language.specs.declared.action_kind.ActionKind.{ActionKind}
use Rattle.argus_language.specs.Command as command
use Rattle.argus_language.specs.declared.action_kind.ActionKind.TheVariants as kind

-- what the line at i says
abbrev pub command_at : List (List ℕ) → ℕ → Command
command_at lines i = command_of (line_text (get_or lines i []))

-- an opening line: `enter`, `if` or `coenter`
abbrev pub opens : Command → Bool
opens (command.enter k) = true
opens command.coenter = true
opens (command.test l name) = true
opens c = false

-- an arm line: `topaction` or `action`
abbrev pub is_arm_line : Command → Bool
is_arm_line (command.arm k) = true
is_arm_line c = false

-- an `end`
abbrev pub is_end : Command → Bool
is_end command.«end» = true
is_end c = false

-- the opening lines that are unmatched after the line at n, given those before it: an opening line
-- adds one, and an `end` matches the innermost
abbrev pub unmatched_behind : Command → ℕ → List ℕ → List ℕ
unmatched_behind c n openings =
    if opens c then n ∷ openings else (if is_end c then drop 1 openings else openings)

-- the opening lines that are still unmatched before the line at n, the innermost first
abbrev pub unmatched : List (List ℕ) → ℕ → List ℕ
unmatched lines zero = []
unmatched lines (suc n) = unmatched_behind (command_at lines n) n (unmatched lines n)

-- the innermost of these lines is the one at i
abbrev pub is_innermost : ℕ → List ℕ → Bool
is_innermost i [] = false
is_innermost i (k ∷ outer) = i == k

-- before the line at n there is an arm line directly in the opening line at i, which is then the
-- innermost that is unmatched
abbrev pub has_arm : List (List ℕ) → ℕ → ℕ → Bool
has_arm lines zero i = false
has_arm lines (suc n) i =
    (is_arm_line (command_at lines n) && is_innermost i (unmatched lines n)) || has_arm lines n i

-- what is directly in the block that such a line opened is in an action: in an `enter` or an `if`,
-- and in a coenter that has an arm line
abbrev pub holds_action : Command → Bool → Bool
holds_action (command.enter k) a = true
holds_action command.coenter a = a
holds_action (command.test l name) a = true
holds_action c a = false

-- the line at n is in an action, if these opening lines are unmatched before it
abbrev pub in_action : List (List ℕ) → ℕ → List ℕ → Bool
in_action lines n [] = false
in_action lines n (i ∷ outer) = holds_action (command_at lines i) (has_arm lines n i)

-- it is at top level
abbrev pub at_top : List ℕ → Bool
at_top [] = true
at_top (i ∷ outer) = false

-- an arm of this kind may begin directly in the block that such a line opened: in a coenter, and a
-- subaction's only if that isn't at top level itself
abbrev pub takes_arm_line : ActionKind → Command → List ℕ → Bool
takes_arm_line k command.nothing outer = false
takes_arm_line kind.Topaction command.coenter outer = true
takes_arm_line kind.Subaction command.coenter outer = not (at_top outer)
takes_arm_line k c outer = false

-- an arm line of this kind is allowed after these lines: directly in the innermost
abbrev pub in_coenter_for : ActionKind → List (List ℕ) → List ℕ → Bool
in_coenter_for k lines [] = false
in_coenter_for k lines (i ∷ outer) = takes_arm_line k (command_at lines i) outer

-- `leave all` is allowed in the block that such a line opened: in a coenter that has an arm line
-- and isn't the outermost block; and in an `if`, if it is allowed further out
abbrev pub lets_leave_all : Command → Bool → Bool → Bool → Bool
lets_leave_all command.coenter is_outermost has_arm further = has_arm && not is_outermost
lets_leave_all (command.test l name) is_outermost has_arm further = further
lets_leave_all c is_outermost has_arm further = false

-- `leave all` is allowed at n, if these opening lines are unmatched before it: from the innermost
-- outwards come only `if`s, and then a coenter with an arm line, which isn't at top level
abbrev pub in_arm_of_action : List (List ℕ) → ℕ → List ℕ → Bool
in_arm_of_action lines n [] = false
in_arm_of_action lines n (i ∷ outer) = lets_leave_all (command_at lines i) (at_top outer)
    (has_arm lines n i) (in_arm_of_action lines n outer)

-- a line with this command is allowed at n, if these opening lines are unmatched before it
abbrev pub may_stand_behind : Command → List (List ℕ) → ℕ → List ℕ → Bool
may_stand_behind command.nothing lines n openings = true
may_stand_behind command.bad lines n openings = true
may_stand_behind (command.declare name shape) lines n openings = at_top openings
may_stand_behind (command.enter kind.Topaction) lines n openings = at_top openings || in_action lines n openings
may_stand_behind command.coenter lines n openings = at_top openings || in_action lines n openings
may_stand_behind (command.arm k) lines n openings = in_coenter_for k lines openings
may_stand_behind command.leave_all lines n openings = in_arm_of_action lines n openings
may_stand_behind command.«end» lines n openings = not (at_top openings)
may_stand_behind c lines n openings = in_action lines n openings

-- the line at n is allowed where it is
abbrev pub may_stand_at : List (List ℕ) → ℕ → Bool
may_stand_at lines n = may_stand_behind (command_at lines n) lines n (unmatched lines n)
