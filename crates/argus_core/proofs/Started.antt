-- A guardian that begins with an opening, and has made no entry.
use Rattle.std.proofs.Common.{All, List, [], ap, arith, length, map, subst, sym, true, ℕ, ◌<◌, ◌∙◌, ◌∷◌, ◌≡◌, ◌≤◌}
use Rattle.std.{proofs.lemmas.Bool.{both_ways, Decides.nat_tests}, specs.Prelude.slice_index_or}
use Rattle.argus_actions.specs.{Tree.Tree, declared.action_id.ActionId.ActionId}
use Rattle.argus_contents.specs.declared.limits.TheConstants.{MAX_OBJECTS}
use Rattle.argus_core.specs.{Checkpoint.opened_objects, Moving.is_listed, StateRefinement.StateRefinesJournal}
use Rattle.argus_core.{specs.declared.engine.atomic_object.AtomicObject.AtomicObject, proofs.Checkpoints.base_opened}
use Rattle.argus_core.proofs.Checkpoints.{length_opened, shapes_opened}
use Rattle.argus_journal.specs.{Events.history, Opening.{KeepsNumbers, Opening, is_sound}}
use Rattle.argus_objects.specs.{Holdings.objects_held_by, declared.holdings.Holdings.Holdings}
use Rattle.argus_refinement.{specs.CellRefinement.IsCell, proofs.TreeSteps.start_tree}

-- no action holds the object
abbrev pub IsFree : AtomicObject → Type 0
IsFree object = (object.cell.readers ≡ []) × (object.cell.versions ≡ [])

-- one that is free, alone
pub one_free : (x : AtomicObject) → IsFree x → All IsFree (x ∷ [])
one_free x f r d lt = grind (arith, nat_tests)

module _ (t : Tree) (objects : List AtomicObject) (holdings : Holdings) (s : Opening)
    (opened : opened_objects objects ≡ s.objects)
    (free : All IsFree objects) where
  count : length objects ≡ length s.objects
  count = sym (length_opened objects) ∙ ap (λ xs. length xs) opened

  cell_started : (o : ℕ) (d : AtomicObject) → o < length objects
      → IsCell s (history s []) t o (slice_index_or objects o d).cell
  cell_started o d lt = grind (arith, nat_tests, base_opened)

  pub kept_started : KeepsNumbers s → is_sound s ≡ true → t.folded ≡ s.first_action → t.rows ≡ []
      → ((x : ActionId) → objects_held_by holdings x ≡ []) → StateRefinesJournal t objects holdings s []
  kept_started limits sound f r empty = record {
    legal = tt;
    sound = sound;
    limits = limits;
    few = subst (λ n. n ≤ MAX_OBJECTS) (sym count) limits.objects;
    shapes = sym (shapes_opened objects) ∙ ap (map (λ object. object.0)) opened;
    state = record {
      actions = start_tree t s.first_action f r;
      each = cell_started;
      held = λ a o. ap (λ l. is_listed l o) (empty a);
      there = λ a o e. absurd (both_ways (is_listed (objects_held_by holdings a) o) (ap (λ l. is_listed l o)
          (empty a)) e);
    };
  }
