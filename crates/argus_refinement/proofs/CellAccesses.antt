-- A cell when an access was granted: a read makes a reader, a write a version; other cells stay.
use Rattle.std.proofs.Common.{Bool, arith, cond, false, refl, subst, sym, true, ℕ, ◌+◌, ◌∙◌, ◌≡◌, ◌≢◌}
use Rattle.std.{proofs.lemmas.Bool.Decides.nat_tests, specs.Prelude.{Option, not, ◌&&◌, ◌==◌}}
use Rattle.argus_actions.specs.{Tree.Tree, declared.action_id.ActionId.ActionId}
use Rattle.argus_contents.specs.Content.{PlainContent}
use Rattle.argus_entries.specs.Entry.{PlainEntry}
use Rattle.argus_journal.specs.{Entries.{entries, is_write, content_after_call}, Opening.{Opening, model_opening}}
use Rattle.argus_refinement.proofs.{CellHolders.{orderly, seen_filter, seen_step, version_live}, CellLists.has_filtered}
use Rattle.argus_refinement.{proofs.CellLists.with_said, specs.CellRefinement.{AreSeen, IsCell}}
use Rattle.argus_refinement.specs.TreeRefinement.{IsTree}
use Rattle.argus_model.proofs.{Live.live_stands, NextHolders.holders_after_access, Standing.Orderly}
use Rattle.argus_model.proofs.NextSees.{base_after_access, sees_after_access_other, sees_after_access_own}
use Rattle.argus_model.{proofs.Numbers.contains_insert, specs.{Contents.{base, sees}, Event.Accessed, History.History}}
use Rattle.argus_model.specs.{History.◌▹◌, Holders.{readers, writers}, Lawful.Lawful, Meaning.reads, Numbers.insert}
use Rattle.argus_model.specs.Status.{is_live}
use Rattle.argus_objects.specs.{CellChanges.{with_reader, with_version, without_version}, Object.Object}
use Rattle.argus_objects.specs.Rules.{is_lawful}

module _ (s : Opening) (h : History PlainEntry) (t : Tree) (is : IsTree t h) (a : ActionId) (o : ℕ) (e : PlainEntry)
    (l : Lawful entries (model_opening s) (Accessed (a.0 + 1) o e ▹ h)) where
  now : Orderly (Accessed (a.0 + 1) o e ▹ h)
  now = orderly s (Accessed (a.0 + 1) o e ▹ h) l

  -- no row changes
  pub access_tree : IsTree t (Accessed (a.0 + 1) o e ▹ h)
  access_tree = record { folded = is.folded; rows = is.rows }

  others_see : (x : ActionId) (i : ℕ) → is_live h (x.0 + 1) ≡ true → x.0 ≢ a.0
      → sees entries (model_opening s) (Accessed (a.0 + 1) o e ▹ h) (x.0 + 1) i ≡ sees entries (model_opening s) h
      (x.0 + 1) i
  others_see x i lx n =
      sees_after_access_other entries (model_opening s) h (a.0 + 1) o e now (x.0 + 1) i
      (live_stands h (orderly s h l.1) (x.0 + 1) lx).1 (λ q. n (omega arith))

  own_sees : (i : ℕ) → sees entries (model_opening s) (Accessed (a.0 + 1) o e ▹ h) (a.0 + 1) i
      ≡ cond (o == i) (content_after_call e.call (sees entries (model_opening s) h (a.0 + 1) i)) (sees entries
      (model_opening s) h (a.0 + 1) i)
  own_sees i = sees_after_access_own entries (model_opening s) h (a.0 + 1) o e now i

  readers_now : (i : ℕ) → readers entries (Accessed (a.0 + 1) o e ▹ h) i
      ≡ cond (o == i && not (is_write e.call)) (insert (a.0 + 1) (readers entries h i)) (readers entries h i)
  readers_now i = holders_after_access (reads entries) h (a.0 + 1) o e now i

  writers_now : (i : ℕ) → writers entries (Accessed (a.0 + 1) o e ▹ h) i
      ≡ cond (o == i && is_write e.call) (insert (a.0 + 1) (writers entries h i)) (writers entries h i)
  writers_now i = holders_after_access entries.writes h (a.0 + 1) o e now i

  base_now : (i : ℕ) → base entries (model_opening s) (Accessed (a.0 + 1) o e ▹ h) i ≡ base entries
      (model_opening s) h i
  base_now i = base_after_access entries (model_opening s) h (a.0 + 1) o e now i

  -- another object
  pub aside_cell : (i : ℕ) (c : Object) → o ≢ i → IsCell s h t i c → IsCell s (Accessed (a.0 + 1) o e ▹ h) t i c
  aside_cell i c other k =
      grind (arith, nat_tests, base_now, readers_now, writers_now, seen_step, own_sees, others_see, version_live)

  -- the object that is read
  pub read_cell : is_write e.call ≡ false → (c c' : Object) → IsCell s h t o c → c'.base ≡ c.base
      → c'.readers ≡ with_reader a c.readers → c'.versions ≡ c.versions → is_lawful t c' ≡ true
      → IsCell s (Accessed (a.0 + 1) o e ▹ h) t o c'
  read_cell read c c' k b r v lw = record {
    lawful = lw;
    base = b ∙ k.base ∙ sym (base_now o);
    readers = grind (arith, nat_tests, with_said, readers_now);
    writers = grind (arith, nat_tests, writers_now);
    seen =
        subst (AreSeen s (Accessed (a.0 + 1) o e ▹ h) o) (sym v)
        (seen_step s h (Accessed (a.0 + 1) o e ▹ h) o c.versions
        (λ x q.
        grind (arith, nat_tests, own_sees, others_see, version_live, same_either))
        k.seen);
  }
    where
      same_either : (b : Bool) (c : Option PlainContent) → cond b c c ≡ c
      same_either true c = refl
      same_either false c = refl

  -- the object that is written
  pub written_cell : is_write e.call ≡ true → (c c' : Object) (content : Option PlainContent) → IsCell s h t o c
      → content ≡ content_after_call e.call (sees entries (model_opening s) h (a.0 + 1) o) → c'.base ≡ c.base
      → c'.readers ≡ c.readers
      → c'.versions ≡ with_version a content c.versions → is_lawful t c' ≡ true
      → IsCell s (Accessed (a.0 + 1) o e ▹ h) t o c'
  written_cell write c c' content k left b r v lw = record {
    lawful = lw;
    base = b ∙ k.base ∙ sym (base_now o);
    readers = grind (arith, nat_tests, readers_now);
    writers = λ x.
        let by_filtered = has_filtered (λ n. not (n == a.0)) c.versions x in
        grind (arith, nat_tests, by_filtered, contains_insert, writers_now, k.writers x);
    seen =
        rw v (
          grind (arith, nat_tests, own_sees o),
          seen_step s h (Accessed (a.0 + 1) o e ▹ h) o (without_version a c.versions)
              (λ x i.
              let without = has_filtered (λ n. not (n == a.0)) c.versions x in
              grind (arith, nat_tests, without, others_see x o, version_live s h l.1 t is o c k x))
              (seen_filter s h o (λ v. not (v.holder.0 == a.0)) c.versions k.seen),
        );
  }
