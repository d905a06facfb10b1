-- Holders of a cell are live, and the read lock is free in the cell exactly if it is free in the history.
use Rattle.std.proofs.Common.{Bool, List, [], ap, arith, subst, sym, true, ℕ, ◌+◌, ◌∙◌, ◌∷◌, ◌≡◌, ◌≢◌}
use Rattle.std.{proofs.lemmas.Bool.{Decides.nat_tests, both_ways}, specs.{List.filter, Prelude.◌-◌}}
use Rattle.argus_actions.specs.{Tree.{SameActions, Tree, is_ancestor}, declared.action_id.ActionId.ActionId}
use Rattle.argus_entries.specs.Entry.{PlainEntry}
use Rattle.argus_refinement.specs.{CellRefinement.{AreSeen, IsCell}, TreeRefinement.IsTree}
use Rattle.argus_refinement.proofs.{TreeAnswers.ancestor_begun_is, CellLists.{all_at, all_from, lawful_more}}
use Rattle.argus_model.proofs.{Siblings.live_begun, Bools.same_bool, Lawful.lawful_orderly, LockRules.holders_live}
use Rattle.argus_model.proofs.{NextHolders.no_base_holder, Numbers.{every_at, every_from, joined, joined_left}}
use Rattle.argus_model.{proofs.Standing.Orderly, specs.{Contents.sees, History.History, Holders.{readers, writers}}}
use Rattle.argus_model.specs.{Lawful.Lawful, Status.is_live, Numbers.contains}
use Rattle.argus_journal.specs.{Entries.entries, Opening.{Opening, model_opening}}
use Rattle.argus_objects.specs.{CellChanges.has_version, Object.{Object, PlainVersion, SameLocks}, Rules.may_read}
use Rattle.argus_model.specs.Ancestors as model
use Rattle.argus_model.specs.Holders as holders_of

pub seen_step : (s : Opening) (h h' : History PlainEntry) (o : ℕ) (vs : List PlainVersion)
    → ((x : ActionId) → has_version x vs ≡ true → sees entries (model_opening s) h' (x.0 + 1) o
    ≡ sees entries (model_opening s) h (x.0 + 1) o) → AreSeen s h o vs → AreSeen s h' o vs
seen_step s h h' o [] f a = tt
seen_step s h h' o (v ∷ vs) f a = grind (arith, nat_tests, seen_step s h h' o vs)

pub seen_filter : (s : Opening) (h : History PlainEntry) (o : ℕ) (keep : PlainVersion → Bool) (vs : List PlainVersion)
    → AreSeen s h o vs → AreSeen s h o (filter keep vs)
seen_filter s h o keep [] a = tt
seen_filter s h o keep (v ∷ vs) a = grind (arith, nat_tests, seen_filter s h o keep vs a.1)

pub orderly : (s : Opening) (h : History PlainEntry) → Lawful entries (model_opening s) h → Orderly h
orderly s h l = lawful_orderly entries (model_opening s) h l

module _ (s : Opening) (h : History PlainEntry) (l : Lawful entries (model_opening s) h) where
  pub writer_live : (o x : ℕ) → contains (writers entries h o) x ≡ true → is_live h x ≡ true
  writer_live o x k =
      holders_live entries h (orderly s h l) o x (joined (readers entries h o) (writers entries h o) x k)

  pub reader_live : (o x : ℕ) → contains (readers entries h o) x ≡ true → is_live h x ≡ true
  reader_live o x k =
      holders_live entries h (orderly s h l) o x (joined_left (readers entries h o) (writers entries h o) x k)

  module _ (t : Tree) (is : IsTree t h) (o : ℕ) (c : Object) (k : IsCell s h t o c) where
    pub version_live : (x : ActionId) → has_version x c.versions ≡ true → is_live h (x.0 + 1) ≡ true
    version_live x e = writer_live o (x.0 + 1) (sym (k.writers x) ∙ e)

    pub above : (x a : ActionId) → has_version x c.versions ≡ true → is_live h (a.0 + 1) ≡ true
        → is_ancestor t x.0 a.0 ≡ model.is_ancestor h (x.0 + 1) (a.0 + 1)
    above x a e la = grind (arith, nat_tests, ancestor_begun_is, orderly, live_begun, version_live)

    pub may_read_is : (a : ActionId) → is_live h (a.0 + 1) ≡ true
        → may_read t c a ≡ holders_of.may_read entries h (a.0 + 1) o
    may_read_is a la =
        same_bool (may_read t c a) (holders_of.may_read entries h (a.0 + 1) o)
        (λ e. every_from (λ x. model.is_ancestor h x (a.0 + 1)) (writers entries h o) (λ x i.
        let y : ActionId = record { 0 = x - 1 } in
        let n : x ≢ 0 = λ e. both_ways (contains (writers entries h o) 0) (no_base_holder entries.writes h o)
        (subst (λ z. contains (writers entries h o) z ≡ true) e i) in
        let same : y.0 + 1 ≡ x = omega arith in
        let has : has_version y c.versions ≡ true = k.writers y ∙ ap (contains (writers entries h o)) same ∙ i in
        subst (λ z. model.is_ancestor h z (a.0 + 1) ≡ true) same
        (sym (above y a has la) ∙ all_at (λ z. is_ancestor t z a.0) c.versions y e has)))
        (λ e. grind (arith, nat_tests, all_from, above, every_at))

pub cell_same : (s : Opening) (h : History PlainEntry) (t t' : Tree) (o : ℕ) (c c' : Object) → SameActions t t'
    → SameLocks c c' → IsCell s h t o c → IsCell s h t' o c'
cell_same s h t t' o c c' ts cs k = grind (arith, nat_tests, lawful_more)
