-- What an action that may read sees in a cell is what it sees in the history, and the write lock is free in both or in
-- neither.
use Rattle.std.proofs.Common.{List, None, Option, Some, [], ap, arith, false, inl, inr, refl, subst, sym, true, ℕ, ◌+◌}
use Rattle.std.proofs.{Common.{◌-◌, ◌∙◌, ◌∷◌, ◌≡◌, ◌≢◌, eqb}, lemmas.Bool.{Decides.nat_tests, both_ways, cases_eq}}
use Rattle.std.{proofs.lemmas.Bool.{eq-eqb, or_left}, specs.{List.list_all, Prelude.{not, ◌&&◌}}}
use Rattle.argus_actions.specs.{Tree.{Tree, is_ancestor}, declared.action_id.ActionId.ActionId}
use Rattle.argus_entries.specs.Entry.{PlainEntry}
use Rattle.argus_refinement.specs.{CellRefinement.{AreSeen, IsCell, history_numbers}, TreeRefinement.IsTree}
use Rattle.argus_refinement.proofs.CellHolders.{above, may_read_is, orderly, reader_live, version_live}
use Rattle.argus_refinement.proofs.{TreeAnswers.ancestor_begun_is, CellLists.all_at}
use Rattle.argus_model.proofs.{Siblings.live_begun, Ancestors.ancestor_self, Contents.accesses_by_agree, Sees.sees_is}
use Rattle.argus_model.proofs.{Holders.contains_holders, HolderSteps.used_by_from, NextHolders.no_base_holder}
use Rattle.argus_model.proofs.{NextSees.sees_base, Numbers.{contains_first, every_at}, Owner.base_above}
use Rattle.argus_model.{proofs.Standing.{Orderly, some_at}, specs.{Contents.sees, History.History}}
use Rattle.argus_model.specs.{HolderSteps.has_used, Holders.{readers, writers}, Lawful.Lawful, Numbers.contains}
use Rattle.argus_model.specs.{OwnerSteps.{is_exactly, owner_by_steps}, Status.is_live, WorkSteps.owner_passes}
use Rattle.argus_journal.specs.{Entries.entries, Opening.{Opening, model_opening}}
use Rattle.argus_objects.specs.{CellChanges.{has_version, newest_content}, Object.{Object, PlainVersion}}
use Rattle.argus_objects.{specs.Rules.{may_read, may_write, visible_content}, proofs.Changes.seen_on_top}
use Rattle.argus_model.specs.Ancestors as model
use Rattle.argus_model.specs.Holders as holders_of

-- who stand under the same writers see the same
pub sees_same : (s : Opening) (h : History PlainEntry) → Orderly h → (x y o : ℕ)
    → ((z : ℕ) → contains (writers entries h o) z ≡ true → model.is_ancestor h z x ≡ model.is_ancestor h z y)
    → sees entries (model_opening s) h x o ≡ sees entries (model_opening s) h y o
sees_same s h w x y o f =
    sees_is entries (model_opening s) h w x o
    ∙ accesses_by_agree entries (model_opening s).contents o (λ b. owner_passes (λ z. model.is_ancestor h z x)
    (owner_by_steps h b)) (λ b. owner_passes (λ z. model.is_ancestor h z y) (owner_by_steps h b)) h
    (λ b u. at b u (owner_by_steps h b) refl)
    ∙ sym (sees_is entries (model_opening s) h w y o)
  where
    at : (b : ℕ) → has_used entries.writes h b o false ≡ true → (q : Option ℕ) → owner_by_steps h b ≡ q
        → owner_passes (λ z. model.is_ancestor h z x) q ≡ owner_passes (λ z. model.is_ancestor h z y) q
    at b u None e = refl
    at b u (Some z) e =
        elim (cases_eq z 0) [
          | inl i ↦ ap (λ n. model.is_ancestor h n x) i ∙ base_above h x
              ∙ sym (ap (λ n. model.is_ancestor h n y) i ∙ base_above h y)
          | inr n ↦ f z (contains_holders entries.writes h w o z n
              ∙ used_by_from entries.writes (λ c. is_exactly (owner_by_steps h c) z) o false h b u
              (some_at (owner_by_steps h b) z e))
        ]

module _ (s : Opening) (h : History PlainEntry) (l : Lawful entries (model_opening s) h) (t : Tree) (is : IsTree t h)
    (o : ℕ)
    (c : Object) (k : IsCell s h t o c) (a : ActionId) (la : is_live h (a.0 + 1) ≡ true) where
  -- a writer as an action
  writer_of : (z : ℕ) → contains (writers entries h o) z ≡ true
      → (y : ActionId) × ((y.0 + 1 ≡ z) × (has_version y c.versions ≡ true))
  writer_of z e =
      let n : z ≢ 0 = λ i. both_ways (contains (writers entries h o) 0) (no_base_holder entries.writes h o)
      (subst (λ z. contains (writers entries h o) z ≡ true) i e) in
      let y : ActionId = record { 0 = z - 1 } in
      let same : y.0 + 1 ≡ z = omega arith in
      (y, (same, k.writers y ∙ ap (contains (writers entries h o)) same ∙ e))

  on_top : (vs : List PlainVersion) → c.versions ≡ vs → holders_of.may_read entries h (a.0 + 1) o ≡ true
      → newest_content c.base vs ≡ sees entries (model_opening s) h (a.0 + 1) o
  on_top [] e may =
      k.base ∙ sym (sees_base entries (model_opening s) h (orderly s h l) o)
      ∙ sees_same s h (orderly s h l) 0 (a.0 + 1) o (λ z i. grind (arith, nat_tests, writer_of z i))
  on_top (v ∷ older) e may =
      let seen : AreSeen s h o (v ∷ older) = subst (AreSeen s h o) e k.seen in
      let there : has_version v.holder c.versions ≡ true = ap (has_version v.holder) e
      ∙ or_left (eqb v.holder.0 v.holder.0) (has_version v.holder older) (eq-eqb v.holder.0 v.holder.0 refl) in
      seen.0
      ∙ sees_same s h (orderly s h l) (v.holder.0 + 1) (a.0 + 1) o
      (λ z i.
      let by_self = ancestor_self h (v.holder.0 + 1) in
      let by_all_at = all_at (λ n. is_ancestor t n v.holder.0 && not (eqb n v.holder.0)) older in
      let by_live = version_live s h l t is o c k v.holder there in
      let by_at = every_at (λ x. model.is_ancestor h x (a.0 + 1)) (writers entries h o) z may i in
      grind (arith, nat_tests, writer_of z i, by_self, by_all_at, above s h l t is o c k, by_live, by_at))

  pub visible_is : may_read t c a ≡ true → visible_content t a c.base c.versions ≡ sees entries (model_opening s) h
      (a.0 + 1) o
  visible_is may = grind (arith, nat_tests, seen_on_top, on_top, may_read_is)

  all_readers : (rs : List ActionId) → ((x : ActionId) → contains (history_numbers rs) (x.0 + 1) ≡ true
      → is_live h (x.0 + 1) ≡ true) → list_all (λ x. is_ancestor t x.0 a.0) rs
      ≡ list_all (λ x. model.is_ancestor h x (a.0 + 1)) (history_numbers rs)
  all_readers [] f = refl
  all_readers (x ∷ rs) f =
      grind (arith, nat_tests, ancestor_begun_is, orderly, live_begun, contains_first, all_readers rs)

  pub may_write_is : may_write t c a ≡ holders_of.may_write entries h (a.0 + 1) o
  may_write_is = grind (arith, nat_tests, may_read_is s h l t is o c k a la, all_readers c.readers, reader_live)
