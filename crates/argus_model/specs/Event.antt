-- What can happen in a guardian: an action begins, commits, is aborted, or accesses an object.
use Rattle.std.specs.Prelude.{List, ℕ}

-- Action 0 is the base, the parent of all topactions: it never begins and never ends.

-- how an action came to be (Argus Reference Manual 1987, actions)
pub data Origin : Type 0 where
  -- a topaction that no action began
  Top : Origin
  -- a subaction
  Sub : (parent : ℕ) → Origin
  -- a nested topaction, begun by an action and independent of it
  Nested : (creator : ℕ) → Origin

-- the parent of an action of this origin: for a topaction, nested or not, it is the base
abbrev pub origin_parent : Origin → ℕ
origin_parent Top = 0
origin_parent (Sub parent) = parent
origin_parent (Nested creator) = 0

-- the creator of an action of this origin: a subaction's parent, a nested topaction's creator, and
-- otherwise the base
abbrev pub origin_begun_by : Origin → ℕ
origin_begun_by Top = 0
origin_begun_by (Sub parent) = parent
origin_begun_by (Nested creator) = creator

-- V is what an access does to its object, with the answer that was given
pub data Event (V : Type 0) : Type 0 where
  Began : Origin → Event V
  Committed : (action : ℕ) → Event V
  -- each of these actions was aborted, in one step
  Aborted : (actions : List ℕ) → Event V
  Accessed : (action object : ℕ) → V → Event V
