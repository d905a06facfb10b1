-- A cell is unchanged when an action begins.
use Rattle.std.proofs.{Common.{arith, sym, true, ℕ, ◌+◌, ◌∙◌, ◌≡◌}, lemmas.Bool.Decides.nat_tests}
use Rattle.argus_actions.{proofs.Above.above_le, specs.Tree.{Tree, after_begin, is_ancestor}}
use Rattle.argus_entries.specs.Entry.{PlainEntry}
use Rattle.argus_journal.specs.{Entries.entries, Opening.{Opening, model_opening}}
use Rattle.argus_refinement.proofs.{CellHolders.{orderly, seen_step, version_live}, CellLists.lawful_more}
use Rattle.argus_refinement.specs.{CellRefinement.IsCell, TreeRefinement.{IsTree, history_origin}}
use Rattle.argus_model.proofs.{Live.is_begun_parts, NextHolders.holders_after_begin, Siblings.live_begun}
use Rattle.argus_model.{proofs.{NextSees.{base_after_begin, sees_after_begin}, Standing.Orderly}, specs.Event.Began}
use Rattle.argus_model.specs.{History.{History, ◌▹◌}, Lawful.Lawful, Meaning.reads}
use Rattle.argus_objects.specs.Object.{Object}
use Rattle.argus_actions.specs.declared.origin.Origin as act_origin

module _ (s : Opening) (h : History PlainEntry) (t : Tree) (is : IsTree t h) (from : act_origin.Origin)
    (l : Lawful entries (model_opening s) (Began (history_origin from) ▹ h)) where
  -- who was an ancestor still is
  lift : (x y : ℕ) → is_ancestor t x y ≡ true → is_ancestor (after_begin t from) x y ≡ true
  lift x y up = grind (arith, nat_tests, above_le)

  now : Orderly (Began (history_origin from) ▹ h)
  now = orderly s (Began (history_origin from) ▹ h) l

  -- a cell goes on as it was
  pub begin_cell : (o : ℕ) (c : Object) → IsCell s h t o c
      → IsCell s (Began (history_origin from) ▹ h) (after_begin t from) o c
  begin_cell o c k = record {
    lawful = lawful_more t (after_begin t from) lift c k.lawful;
    base = k.base ∙ sym (base_after_begin entries (model_opening s) h (history_origin from) now o);
    readers = k.readers ∙ sym (holders_after_begin (reads entries) h (history_origin from) now o);
    writers = grind (arith, nat_tests, holders_after_begin, now);
    seen =
        seen_step s h (Began (history_origin from) ▹ h) o c.versions (λ x i.
        let by_live = version_live s h l.1 t is o c k x i in
        let by_begin = sees_after_begin entries (model_opening s) h (history_origin from) now (x.0 + 1) o in
        grind (arith, is_begun_parts h (x.0 + 1), live_begun h (x.0 + 1), by_live, by_begin)) k.seen;
  }
