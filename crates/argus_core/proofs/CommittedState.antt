-- All objects, and the lists of what each action holds, when an action commits.
use Rattle.std.proofs.Common.{Bool, List, None, Some, [], ap, arith, cond, false, length, refl, subst, sym, true, ℕ}
use Rattle.std.{proofs.{Common.{◌+◌, ◌<◌, ◌∙◌, ◌≡◌, ◌≢◌, ◌||◌}, lemmas.Bool.Decides.nat_tests}, specs.Option.unwrap_or}
use Rattle.std.specs.Prelude.{map, slice_index_or}
use Rattle.argus_actions.specs.{Tree.{Tree, after_commit, parent_of}, declared.action_id.ActionId.ActionId}
use Rattle.argus_entries.specs.Entry.{PlainEntry}
use Rattle.argus_core.specs.{StateRefinement.{StateRefinesHistory, holds}, Moving.{is_listed, AreChanged, ChangedIf}}
use Rattle.argus_core.specs.{Moving.{IsInherited, IsSettled}, declared.engine.atomic_object.AtomicObject.AtomicObject}
use Rattle.argus_core.proofs.Noted.{is_listed_passed, readers_none}
use Rattle.argus_refinement.{specs.CellRefinement.IsCell, proofs.{TreeSteps.commit_tree, CellLists.reader_said}}
use Rattle.argus_refinement.proofs.CellCommits.{no_parent, now, parent_less, sub_cell, top_cell, up_is}
use Rattle.argus_journal.specs.{Entries.entries, Opening.{Opening, model_opening}}
use Rattle.argus_model.specs.{Event.Committed, History.{History, ◌▹◌}, Holders.{inherited, readers, writers}}
use Rattle.argus_model.{specs.{Lawful.Lawful, Meaning.reads, Numbers.contains}, proofs.NextHolders.holders_after_commit}
use Rattle.argus_model.proofs.NextHolders.{inherited_other, inherited_own, inherited_parent}
use Rattle.argus_objects.specs.{Holdings.{Lists, PassedOn, objects_held_by, passed}, Object.{Object, PlainVersion}}
use Rattle.argus_objects.specs.CellChanges.{version_inherited, has_version, is_reader, versions_inherited, with_reader}
use Rattle.argus_objects.specs.{CellChanges.{without_reader, without_version}, declared.holdings.Holdings.Holdings}
use Rattle.argus_objects.proofs.Stacks.{version_of_none, without_none}
use Rattle.argus_model.specs.Ancestors as model

-- who doesn't hold the object isn't in its cell
record IsFree (a : ActionId) (c : Object) : Type 0 where
  readers : is_reader a c.readers ≡ false
  versions : has_version a c.versions ≡ false

free_cell : (s : Opening) (h : History PlainEntry) (t : Tree) (o : ℕ) (c : Object) (a : ActionId) → IsCell s h t o c
    → holds h (a.0 + 1) o ≡ false → IsFree a c
free_cell s h t o c a k e = grind (arith, nat_tests, reader_said)

none_inherited : (a p : ActionId) (vs : List PlainVersion) → has_version a vs ≡ false → versions_inherited a p vs ≡ vs
none_inherited a p vs e = ap (λ b. cond b (map (version_inherited a p) (without_version p vs)) vs) e

module _ (s : Opening) (h : History PlainEntry) (t : Tree) (objects objects' : List AtomicObject)
    (holdings holdings' : Holdings) (k : StateRefinesHistory t objects holdings s h) (a : ActionId)
    (l : Lawful entries (model_opening s) (Committed (a.0 + 1) ▹ h)) where
  abbrev up : ℕ
  up = model.parent h (a.0 + 1)

  held_after : (n o : ℕ) → holds (Committed (a.0 + 1) ▹ h) n o
      ≡ (contains (inherited (a.0 + 1) up (readers entries h o)) n
      || contains (inherited (a.0 + 1) up (writers entries h o)) n)
  held_after n o =
      let w = now s h t k.actions a l in
      let rs = ap (λ xs. contains xs n) (holders_after_commit (reads entries) h (a.0 + 1) w o) in
      let ws = ap (λ xs. contains xs n) (holders_after_commit entries.writes h (a.0 + 1) w o) in
      grind (arith, rs, ws)

  -- it holds nothing more
  own_after : (o : ℕ) → up ≢ a.0 + 1 → holds (Committed (a.0 + 1) ▹ h) (a.0 + 1) o ≡ false
  own_after o n = grind (arith, nat_tests, held_after, inherited_own)

  other_after : (x : ActionId) (o : ℕ) → x.0 ≢ a.0 → x.0 + 1 ≢ up
      → holds (Committed (a.0 + 1) ▹ h) (x.0 + 1) o ≡ holds h (x.0 + 1) o
  other_after x o na np = grind (arith, nat_tests, held_after, inherited_other)

  module _ (top : parent_of t a.0 ≡ None) (moved : AreChanged (IsSettled t a)
      (objects_held_by holdings a) objects objects')
      (cleared : Lists holdings a [] holdings') where
    settled_at : (o : ℕ) (c c' : Object) (b : Bool) → is_listed (objects_held_by holdings a) o ≡ b → IsCell s h t o c
        → ChangedIf b (IsSettled t a) c c' → IsCell s (Committed (a.0 + 1) ▹ h) (after_commit t a.0) o c'
    settled_at o c c' true e i r = top_cell s h t k.actions a l top o c c' i r.base r.readers r.versions r.lawful
    settled_at o c c' false e i r =
        let f = free_cell s h t o c a i (sym (k.held a o) ∙ e) in
        subst (IsCell s (Committed (a.0 + 1) ▹ h) (after_commit t a.0) o) (sym r)
        (top_cell s h t k.actions a l top o c c i (sym (ap (λ q. unwrap_or q c.base)
        (version_of_none a c.versions f.versions))) (sym (readers_none a c.readers f.readers))
        (sym (without_none a c.versions f.versions)) i.lawful)

    -- a list after the commit has what its action holds then
    held_top : (x : ActionId) (o : ℕ) → is_listed (objects_held_by holdings' x) o
        ≡ holds (Committed (a.0 + 1) ▹ h) (x.0 + 1) o
    held_top x o = grind (arith, nat_tests, no_parent s h t k.actions a l top, own_after o, other_after x o)

    -- and all that is on it is there
    there_top : (x : ActionId) (o : ℕ) → is_listed (objects_held_by holdings' x) o ≡ true → o < length objects'
    there_top x o i =
        let list = ap (λ list. is_listed list o) (cleared x) in
        grind (arith, nat_tests, list, k.there x o, moved.count)

    pub parts_top : StateRefinesHistory (after_commit t a.0) objects' holdings' s (Committed (a.0 + 1) ▹ h)
    parts_top = record {
      actions = commit_tree t h k.actions a.0;
      each = λ o d lt.
          let low : o < length objects = subst (λ n. o < n) moved.count lt in
          settled_at o (slice_index_or objects o d).cell (slice_index_or objects' o d).cell
          (is_listed (objects_held_by holdings a) o) refl (k.each o d low) (moved.each o d low).cell;
      held = held_top;
      there = there_top;
    }

  module _ (p : ActionId) (sub : parent_of t a.0 ≡ Some p)
      (moved : AreChanged (IsInherited t a p) (objects_held_by holdings a) objects objects')
      (handed_on : PassedOn holdings a p holdings') where
    inherited_at : (o : ℕ) (c c' : Object) (b : Bool) → is_listed (objects_held_by holdings a) o ≡ b → IsCell s h t o c
        → ChangedIf b (IsInherited t a p) c c' → IsCell s (Committed (a.0 + 1) ▹ h) (after_commit t a.0) o c'
    inherited_at o c c' true e i r = sub_cell s h t k.actions a l p sub o c c' i r.base r.readers r.versions r.lawful
    inherited_at o c c' false e i r =
        let f = free_cell s h t o c a i (sym (k.held a o) ∙ e) in
        subst (IsCell s (Committed (a.0 + 1) ▹ h) (after_commit t a.0) o) (sym r)
        (sub_cell s h t k.actions a l p sub o c c i refl
        (sym (ap (λ b. cond b (with_reader p (without_reader a c.readers)) c.readers) f.readers))
        (sym (none_inherited a p c.versions f.versions)) i.lawful)

    list_now : (x : ActionId) → x.0 ≢ a.0 → x.0 ≢ p.0 → objects_held_by holdings' x ≡ objects_held_by holdings x
    list_now x na np = grind (arith, nat_tests)

    list_own : (x : ActionId) → x.0 ≡ a.0 → objects_held_by holdings' x ≡ []
    list_own x e = grind (arith, nat_tests)

    list_parent : (x : ActionId) → x.0 ≡ p.0 → objects_held_by holdings' x ≡ passed (objects_held_by holdings a)
        (objects_held_by holdings p)
    list_parent x e = grind (arith, nat_tests, parent_less)

    parent_now : up ≡ p.0 + 1
    parent_now = up_is s h t k.actions a l p sub

    parent_held : (o : ℕ) → is_listed (passed (objects_held_by holdings a) (objects_held_by holdings p)) o
        ≡ holds (Committed (a.0 + 1) ▹ h) (p.0 + 1) o
    parent_held o = grind (arith, nat_tests, parent_less, is_listed_passed, held_after, parent_now, inherited_parent)

    -- a list after the commit has what its action holds then
    held_sub : (x : ActionId) (o : ℕ) → is_listed (objects_held_by holdings' x) o
        ≡ holds (Committed (a.0 + 1) ▹ h) (x.0 + 1) o
    held_sub x o =
        let less = parent_less s h t k.actions a l p sub in
        let held = k.held x o in
        grind (arith, nat_tests, list_own, list_parent, list_now, own_after, other_after, parent_held, parent_now)

    -- and all that is on it is there
    there_sub : (x : ActionId) (o : ℕ) → is_listed (objects_held_by holdings' x) o ≡ true → o < length objects'
    there_sub x o i =
        let both = is_listed_passed (objects_held_by holdings a) (objects_held_by holdings p) o in
        let count = moved.count in
        grind (arith, nat_tests, list_own, list_parent, list_now, k.there x o, k.there p o, k.there a o)

    pub parts_sub : StateRefinesHistory (after_commit t a.0) objects' holdings' s (Committed (a.0 + 1) ▹ h)
    parts_sub = record {
      actions = commit_tree t h k.actions a.0;
      each = λ o d lt.
          let low : o < length objects = subst (λ n. o < n) moved.count lt in
          inherited_at o (slice_index_or objects o d).cell (slice_index_or objects' o d).cell
          (is_listed (objects_held_by holdings a) o) refl (k.each o d low) (moved.each o d low).cell;
      held = held_sub;
      there = there_sub;
    }
