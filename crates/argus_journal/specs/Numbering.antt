-- The numbers of actions: the program's action a is a + 1 in the history, where 0 is the base. Only
-- this file has the shift.
use Rattle.std.specs.Prelude.{List, None, Option, Some, if◌then◌else◌, map, ℕ, ◌+◌, ◌-◌, ◌==◌}

-- the history's number of an action of the program
abbrev pub in_history : ℕ → ℕ
in_history a = a + 1

-- the program's number of an action of the history
abbrev pub in_program : ℕ → ℕ
in_program x = x - 1

-- the history's numbers of these actions of the program
abbrev pub all_in_history : List ℕ → List ℕ
all_in_history actions = map in_history actions

-- the program's numbers of these actions of the history
abbrev pub all_in_program : List ℕ → List ℕ
all_in_program xs = map in_program xs

-- the program's number of a parent or a creator; none if it is the base
abbrev pub unless_base : ℕ → Option ℕ
unless_base x = if x == 0 then None else Some (in_program x)
