-- How the guardian's state agrees with its journal.
use Rattle.std.specs.Prelude.{Bool, List, length, map, slice_index_or, true, ℕ, ◌+◌, ◌<◌, ◌≡◌, ◌||◌, ◌≤◌}
use Rattle.argus_actions.specs.{Tree.Tree, declared.action_id.ActionId.ActionId}
use Rattle.argus_contents.specs.declared.limits.TheConstants.{MAX_OBJECTS}
use Rattle.argus_entries.specs.Entry.{PlainEntry}
use Rattle.argus_core.specs.{Moving.is_listed, declared.engine.atomic_object.AtomicObject.AtomicObject}
use Rattle.argus_journal.specs.{Entries.entries, Events.history, Legal.Legal, Objects.shapes}
use Rattle.argus_journal.specs.Opening.{KeepsNumbers, Opening, is_sound}
use Rattle.argus_refinement.specs.{CellRefinement.IsCell, TreeRefinement.IsTree}
use Rattle.argus_model.specs.{History.History, Holders.{readers, writers}, Numbers.contains}
use Rattle.argus_objects.specs.{Holdings.objects_held_by, declared.holdings.Holdings.Holdings}

-- the action holds the object, for reading or for writing; both as the history numbers them
abbrev pub holds : History PlainEntry → ℕ → ℕ → Bool
holds h a o = contains (readers entries h o) a || contains (writers entries h o) a

-- The state agrees with a history: the tree has its rows, each cell its base, readers and versions,
-- and the list of each action has exactly the objects that it holds.
pub record StateRefinesHistory (tree : Tree) (objects : List AtomicObject) (holdings : Holdings)
    (s : Opening)
    (h : History PlainEntry) : Type 0 where
  pub actions : IsTree tree h
  pub each : (o : ℕ) (d : AtomicObject) → o < length objects
      → IsCell s h tree o (slice_index_or objects o d).cell
  pub held : (a : ActionId) (o : ℕ) → is_listed (objects_held_by holdings a) o ≡ holds h (a.0 + 1) o
  pub there : (a : ActionId) (o : ℕ) → is_listed (objects_held_by holdings a) o ≡ true
      → o < length objects

-- The guardian agrees with its journal: the journal is legal, its opening is sound and within the
-- limits, and the objects are those declared.
pub record StateRefinesJournal (tree : Tree) (objects : List AtomicObject) (holdings : Holdings)
    (s : Opening)
    (j : List PlainEntry) : Type 0 where
  pub legal : Legal s j
  pub sound : is_sound s ≡ true
  pub limits : KeepsNumbers s
  pub few : length objects ≤ MAX_OBJECTS
  pub shapes : map (λ k. k.shape) objects ≡ shapes s j
  pub state : StateRefinesHistory tree objects holdings s (history s j)
