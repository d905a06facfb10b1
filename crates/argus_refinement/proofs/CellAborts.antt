-- A cell when holders are ended: actions under the aborted ones release it.
use Rattle.std.proofs.Common.{arith, Bool, List, ap, inl, inr, sym, true, ℕ, ◌+◌, ◌∙◌, ◌≡◌}
use Rattle.std.{proofs.lemmas.Bool.{Decides.nat_tests, cases_Bool}, specs.{List.filter, Prelude.{not, ◌&&◌}}}
use Rattle.argus_actions.{proofs.Marks.is_above-mark, specs.Tree.{Tree, after_abort, after_abort_others, is_ancestor}}
use Rattle.argus_actions.specs.declared.action_id.ActionId.{ActionId}
use Rattle.argus_actions.specs.declared.status.Status.TheVariants.{Aborted as became_aborted}
use Rattle.argus_entries.specs.Entry.{PlainEntry}
use Rattle.argus_journal.specs.{Entries.entries, Opening.{Opening, model_opening}}
use Rattle.argus_refinement.proofs.CellHolders.{orderly, reader_live, seen_filter, seen_step, version_live, writer_live}
use Rattle.argus_refinement.{proofs.CellLists.{filter_said, has_filtered, lawful_more}, specs.CellRefinement.IsCell}
use Rattle.argus_refinement.specs.TreeRefinement.{IsTree}
use Rattle.argus_model.proofs.{Live.live_stands, NextHolders.{contains_filtered, holders_after_abort}, Standing.Orderly}
use Rattle.argus_model.{proofs.NextSees.{base_after_abort, sees_after_abort}, specs.{Event.Aborted, History.History}}
use Rattle.argus_model.specs.{History.◌▹◌, Holders.writers, Lawful.Lawful, Numbers.contains, Status.is_live}
use Rattle.argus_objects.specs.{CellChanges.has_version, Object.Object, Rules.is_lawful}
use Rattle.argus_model.specs.Ancestors as model

-- ended says of each live action whether it stands under one of those that the event names; t' is the tree after it
module _ (s : Opening) (h : History PlainEntry) (t t' : Tree) (is : IsTree t h) (actions : List ℕ) (ended : ℕ → Bool)
    (l : Lawful entries (model_opening s) (Aborted actions ▹ h))
    (under : (x : ActionId) → is_live h (x.0 + 1) ≡ true → ended x.0 ≡ model.is_under h actions (x.0 + 1))
    (more : (x y : ℕ) → is_ancestor t x y ≡ true → is_ancestor t' x y ≡ true) where
  gone : Orderly (Aborted actions ▹ h)
  gone = orderly s (Aborted actions ▹ h) l

  abbrev kept : ℕ → Bool
  kept n = not (model.is_under h actions n)

  -- the writers that go on
  writers_now : (o : ℕ) (c c' : Object) → IsCell s h t o c
      → c'.versions ≡ filter (λ v. not (ended v.holder.0)) c.versions → (x : ActionId)
      → has_version x c'.versions ≡ contains (writers entries (Aborted actions ▹ h) o) (x.0 + 1)
  writers_now o c c' k v x =
      ap (has_version x) v
      ∙ has_filtered (λ n. not (ended n)) c.versions x
      ∙ elim (cases_Bool (has_version x c.versions)) [
        | inl e ↦ ap (λ b. has_version x c.versions && not b) (under x (version_live s h l.1 t is o c k x e))
        | inr e ↦ grind (arith, nat_tests)
      ]
      ∙ ap (λ b. b && kept (x.0 + 1)) (k.writers x)
      ∙ sym (contains_filtered kept (writers entries h o) (x.0 + 1))
      ∙ ap (λ ws. contains ws (x.0 + 1)) (sym (holders_after_abort entries.writes h actions gone o))

  -- the cell without the holders that were ended
  pub ended_cell : (o : ℕ) (c c' : Object) → IsCell s h t o c → c'.base ≡ c.base
      → c'.readers ≡ filter (λ x. not (ended x.0)) c.readers
      → c'.versions ≡ filter (λ v. not (ended v.holder.0)) c.versions → is_lawful t c' ≡ true
      → IsCell s (Aborted actions ▹ h) t' o c'
  ended_cell o c c' k b r v lw = record {
    lawful = lawful_more t t' more c' lw;
    base = b ∙ k.base ∙ sym (base_after_abort entries (model_opening s) h actions gone o);
    readers = grind (arith, nat_tests, filter_said, reader_live, holders_after_abort, gone);
    writers = writers_now o c c' k v;
    seen =
        rw v (seen_step s h (Aborted actions ▹ h) o (filter (λ v. not (ended v.holder.0)) c.versions)
        (λ x i.
        let lives = writer_live s (Aborted actions ▹ h) l o (x.0 + 1) in
        let sees_as = sees_after_abort entries (model_opening s) h actions gone (x.0 + 1) o in
        grind (arith, writers_now o c c' k v x, lives, sees_as, live_stands (Aborted actions ▹ h) gone (x.0 + 1)))
        (seen_filter s h o (λ v. not (ended v.holder.0)) c.versions k.seen));
  }

-- ancestors stay when rows are marked
pub abort_more : (t : Tree) (a : ℕ) (x y : ℕ) → is_ancestor t x y ≡ true → is_ancestor (after_abort t a) x y ≡ true
abort_more t a x y up = is_above-mark t.folded (is_ancestor t a) became_aborted t.rows x y ∙ up

pub others_more : (t : Tree) (a : ℕ) (x y : ℕ) → is_ancestor t x y ≡ true
    → is_ancestor (after_abort_others t a) x y ≡ true
others_more t a x y up = grind (arith, nat_tests, is_above-mark)
