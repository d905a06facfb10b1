-- What happens to objects and lists when actions are ended.
use Rattle.std.specs.Prelude.{Bool, List, [], if◌then◌else◌, length, slice_index_or, true, ℕ, ◌<◌, ◌||◌, ◌≡◌}
use Rattle.argus_actions.specs.{Nodes.AreLinked, Tree.Tree, declared.action_id.ActionId.ActionId}
use Rattle.argus_core.specs.{Moving.{AreLawful, IsEnded, is_listed}, declared.engine.atomic_object.AtomicObject.AtomicObject}
use Rattle.argus_objects.specs.{Holdings.objects_held_by, CellChanges.{has_version, is_reader}}
use Rattle.argus_objects.specs.declared.holdings.Holdings.{Holdings}

-- each number on a list has an object
abbrev pub AreAllThere : Holdings → ℕ → Type 0
AreAllThere held n = (x : ActionId) (o : ℕ) → is_listed (objects_held_by held x) o ≡ true → o < n

-- the lists of those that pass the test are empty, all others stay
abbrev pub AreCleared : (ℕ → Bool) → Holdings → Holdings → Type 0
AreCleared ended held held' =
    (x : ActionId) → objects_held_by held' x ≡ (if ended x.0 then [] else objects_held_by held x)

-- those that pass the test hold nothing, in no object and on no list
pub record AreEnded (t : Tree) (ended : ℕ → Bool) (old new : List AtomicObject)
    (held held' : Holdings) : Type 0 where
  pub count : length new ≡ length old
  pub shape : (o : ℕ) (d : AtomicObject) → o < length old
      → (slice_index_or new o d).shape ≡ (slice_index_or old o d).shape
  pub cell : (o : ℕ) (d : AtomicObject) → o < length old
      → IsEnded t ended (slice_index_or old o d).cell (slice_index_or new o d).cell
  pub lists : AreCleared ended held held'

-- each holder of an object has it on its list
abbrev pub AreCovered : List AtomicObject → Holdings → Type 0
AreCovered objects held =
    (x : ActionId) (o : ℕ) (d : AtomicObject) → o < length objects
    → (is_reader x (slice_index_or objects o d).cell.readers
    || has_version x (slice_index_or objects o d).cell.versions) ≡ true
    → is_listed (objects_held_by held x) o ≡ true

-- each action was begun under an older one, if under any, each cell is lawful, and each action has on
-- its list what it holds, and no number that has no object
pub record CanSweep (t : Tree) (objects : List AtomicObject) (held : Holdings) : Type 0 where
  pub linked : AreLinked t.folded t.rows
  pub lawful : AreLawful t objects
  pub there : AreAllThere held (length objects)
  pub covered : AreCovered objects held
