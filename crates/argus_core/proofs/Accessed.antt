-- The parts after a granted access.
use Rattle.std.proofs.Common.{Bool, List, [], arith, cond, false, length, refl, subst, sym, true, ℕ, ◌+◌, ◌<◌, ◌≤◌, ◌∙◌}
use Rattle.std.{proofs.{Common.{◌∷◌, ◌≡◌, ◌≢◌, ◌||◌}, lemmas.Bool.Decides.nat_tests}, specs.Prelude.not}
use Rattle.std.specs.Prelude.{slice_index_or, ◌&&◌, ◌==◌}
use Rattle.argus_actions.specs.{Tree.Tree, declared.action_id.ActionId.ActionId}
use Rattle.argus_contents.specs.declared.{obj_id.ObjId.ObjId, limits.TheConstants.MAX_OBJECTS}
use Rattle.argus_entries.specs.Entry.{PlainEntry}
use Rattle.argus_core.specs.{Accessing.{IsAccessed, IsAsBefore}, Moving.{ChangedIf, is_listed}}
use Rattle.argus_core.specs.StateRefinement.{StateRefinesHistory, StateRefinesJournal, holds}
use Rattle.argus_core.{specs.declared.engine.atomic_object.AtomicObject.AtomicObject, proofs.Ends.parts_lists}
use Rattle.argus_core.proofs.{Ends.shapes_kept, Noted.is_listed_noted}
use Rattle.argus_journal.specs.{Entries.entries, Events.history, Opening.{Opening, model_opening}}
use Rattle.argus_refinement.{specs.CellRefinement.IsCell, proofs.CellAccesses.{access_tree, aside_cell}}
use Rattle.argus_refinement.proofs.CellHolders.{cell_same, orderly}
use Rattle.argus_model.specs.{Event.Accessed, History.{History, ◌▹◌}, Lawful.Lawful, Numbers.{contains, insert}}
use Rattle.argus_model.proofs.{Bools.or_none, NextHolders.holders_after_access, Numbers.contains_insert}
use Rattle.argus_model.proofs.Standing.{Orderly}
use Rattle.argus_objects.specs.{Holdings.{objects_held_by, noted}, Object.{Object, SameLocks}}
use Rattle.argus_objects.specs.declared.holdings.Holdings.{Holdings}

-- one more holder, for reading or for writing
one_more : (here write : Bool) (a n : ℕ) (rs ws : List ℕ)
    → (contains (cond (here && not write) (insert a rs) rs) n || contains (cond (here && write) (insert a ws) ws) n)
    ≡ ((contains rs n || contains ws n) || (here && n == a))
one_more false write a n rs ws = or_none (contains rs n || contains ws n)
one_more true true a n rs ws = grind (arith, nat_tests, contains_insert)
one_more true false a n rs ws = grind (arith, nat_tests, contains_insert)

module _ (R : Object → Object → Type 0) (s : Opening) (h : History PlainEntry) (t : Tree)
    (objects objects' : List AtomicObject) (holdings holdings' : Holdings)
    (k : StateRefinesHistory t objects holdings s h)
    (a : ActionId) (o : ObjId) (e : PlainEntry) (l : Lawful entries (model_opening s) (Accessed (a.0 + 1) o.0 e ▹ h))
    (low : o.0 < length objects) (transition : (c c' : Object) → IsCell s h t o.0 c → R c c'
    → IsCell s (Accessed (a.0 + 1) o.0 e ▹ h) t o.0 c') (moved : IsAccessed R a o objects objects' holdings holdings')
  where
    now : Orderly (Accessed (a.0 + 1) o.0 e ▹ h)
    now = orderly s (Accessed (a.0 + 1) o.0 e ▹ h) l

    holds_now : (n i : ℕ) → holds (Accessed (a.0 + 1) o.0 e ▹ h) n i ≡ (holds h n i || (o.0 == i && n == a.0 + 1))
    holds_now n i = grind (arith, nat_tests, holders_after_access, now, one_more)

    cell_at : (i : ℕ) (c c' : Object) (b : Bool) → is_listed (o ∷ []) i ≡ b → IsCell s h t i c → ChangedIf b R c c'
        → IsCell s (Accessed (a.0 + 1) o.0 e ▹ h) t i c'
    cell_at i c c' true q k r = grind (arith, nat_tests)
    cell_at i c c' false q k' r = grind (arith, nat_tests, aside_cell s h t k.actions a o.0 e l i c)

    own_list : (x : ActionId) → x.0 ≡ a.0 → objects_held_by holdings' x ≡ noted o (objects_held_by holdings a)
    own_list x q = grind (arith, nat_tests)

    other_list : (x : ActionId) → x.0 ≢ a.0 → objects_held_by holdings' x ≡ objects_held_by holdings x
    other_list x n = grind (arith, nat_tests)

    held_now : (x : ActionId) (i : ℕ) → is_listed (objects_held_by holdings' x) i
        ≡ holds (Accessed (a.0 + 1) o.0 e ▹ h) (x.0 + 1) i
    held_now x i = grind (arith, nat_tests, is_listed_noted, holds_now)

    -- all that is on a list is there
    there_now : (x : ActionId) (i : ℕ) → is_listed (objects_held_by holdings' x) i ≡ true → i < length objects'
    there_now x i q = grind (arith, nat_tests, is_listed_noted o (objects_held_by holdings a) i, own_list, other_list)

    pub parts_accessed : StateRefinesHistory t objects' holdings' s (Accessed (a.0 + 1) o.0 e ▹ h)
    parts_accessed = record {
      actions = access_tree s h t k.actions a o.0 e l;
      each = λ i d lt.
          let less : i < length objects = subst (λ n. i < n) moved.objects.count lt in
          cell_at i (slice_index_or objects i d).cell (slice_index_or objects' i d).cell (is_listed (o ∷ []) i) refl
          (k.each i d less) (moved.objects.each i d less).cell;
      held = held_now;
      there = there_now;
    }

-- but for room, all is as before
pub kept_locks : (t : Tree) (objects objects' : List AtomicObject) (holdings holdings' : Holdings) (s : Opening)
    (j : List PlainEntry) (o : ObjId) → StateRefinesJournal t objects holdings s j
    → IsAsBefore o objects objects' holdings holdings'
    → StateRefinesJournal t objects' holdings' s j
kept_locks t objects objects' holdings holdings' s j o k same =
    let moved = same.objects in
    let p : StateRefinesHistory t objects holdings' s (history s j) =
    parts_lists t objects holdings holdings' s (history s j) same.lists k.state in
    record {
      legal = k.legal;
      sound = k.sound;
      limits = k.limits;
      few = subst (λ n. n ≤ MAX_OBJECTS) (sym moved.count) k.few;
      shapes = shapes_kept _ _ _ _ moved ∙ k.shapes;
      state = record {
        actions = p.actions;
        each = λ i d lt. let low : i < length objects = subst (λ n. i < n) moved.count lt in at i
            (slice_index_or objects i d).cell (slice_index_or objects' i d).cell (is_listed (o ∷ []) i) (p.each i d low)
            (moved.each i d low).cell;
        held = p.held;
        there = λ x i q. subst (λ n. i < n) (sym moved.count) (p.there x i q);
      };
    }
  where
    at : (i : ℕ) (c c' : Object) (b : Bool) → IsCell s (history s j) t i c → ChangedIf b SameLocks c c'
        → IsCell s (history s j) t i c'
    at i c c' true q r = cell_same s (history s j) t t i c c' (record { folded = refl; rows = refl }) r q
    at i c c' false q r = subst (IsCell s (history s j) t i) (sym r) q
