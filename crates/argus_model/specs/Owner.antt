-- The owner of what an action did: the action itself until it commits, and then the owner of its
-- parent (Moss 1981, inheritance of locks).
use Rattle.std.specs.Prelude.{Bool, List, [], false, if◌then◌else◌, true, ℕ, ◌==◌, ◌∷◌}
use Rattle.argus_model.specs.{Ancestors.{is_ancestor, lineage}, History.History}
use Rattle.argus_model.specs.Status.{has_committed, is_begun, is_doomed}

-- the owner of a piece of work
pub data Owner : Type 0 where
  -- unknown: the action was folded, or never began
  Folded : Owner
  -- what it did is undone
  Gone : Owner
  -- this live action
  Held : ℕ → Owner
  -- what it did is there for good
  Base : Owner

-- the owner by a lineage: gone if the first is doomed, the first itself if it hasn't committed,
-- otherwise the owner of its parent
abbrev pub owner_up : {V : Type 0} → History V → List ℕ → Owner
owner_up h [] = Base
owner_up h (a ∷ up) =
    if a == 0 then Base else if is_doomed h a then Gone else
    if has_committed h a then owner_up h up else Held a

-- the owner of what the action did
abbrev pub owner : {V : Type 0} → History V → ℕ → Owner
owner h a = if is_begun h a then owner_up h (lineage h a) else Folded

-- work with this owner counts for a: it is there for good, or the owner is an ancestor of a
abbrev pub counts_for : {V : Type 0} → History V → ℕ → Owner → Bool
counts_for h a Folded = false
counts_for h a Gone = false
counts_for h a (Held x) = is_ancestor h x a
counts_for h a Base = true

-- it is there for good
abbrev pub is_base : Owner → Bool
is_base Base = true
is_base Folded = false
is_base Gone = false
is_base (Held x) = false

-- its owner is x
abbrev pub is_held_by : ℕ → Owner → Bool
is_held_by x (Held y) = y == x
is_held_by x Folded = false
is_held_by x Gone = false
is_held_by x Base = false

-- the owner, after a has handed what it owns to p
abbrev pub passed_up : ℕ → ℕ → Owner → Owner
passed_up a p (Held x) = if x == a then (if p == 0 then Base else Held p) else Held x
passed_up a p Folded = Folded
passed_up a p Gone = Gone
passed_up a p Base = Base

-- the owner, after those that pass the test were aborted
abbrev pub unless_gone : (ℕ → Bool) → Owner → Owner
unless_gone test (Held x) = if test x then Gone else Held x
unless_gone test Folded = Folded
unless_gone test Gone = Gone
unless_gone test Base = Base
