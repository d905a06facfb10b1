-- The versions of a cell go from ancestor to descendant, and lawful follows from exclusion.
use Rattle.std.proofs.Common.{Bool, List, Option, [], ap, arith, false, inl, inr, refl, subst, sym, true, ℕ, ◌+◌, ◌<◌}
use Rattle.std.proofs.{Common.{◌∙◌, ◌∷◌, ◌≡◌, ◌≢◌, ◌++◌, ◌||◌, eqb, ⊎_elim}, lemmas.Bool.{Decides.nat_tests, and_from}}
use Rattle.std.proofs.lemmas.Bool.{and_parts, cases_eq, eq-eqb, eqb-true, false≢true, ltb-true, or_cases, or_left}
use Rattle.std.{proofs.lemmas.{Bool.or_right, Grind.reverse_onto, List.map-append}, specs.{List.list_all, Prelude.map}}
use Rattle.std.specs.Prelude.{nat_lt, not, reverse, ◌&&◌, ◌-◌}
use Rattle.argus_actions.{proofs.Above.above_le, specs.{Tree.{Tree, is_ancestor}, declared.action_id.ActionId.ActionId}}
use Rattle.argus_contents.specs.Content.{PlainContent}
use Rattle.argus_entries.specs.Entry.{PlainEntry}
use Rattle.argus_journal.specs.{Entries.entries, Opening.{Opening, model_opening}}
use Rattle.argus_refinement.proofs.{CellHolders.orderly, CellLists.{all_at, all_from}, TreeAnswers.ancestor_begun_is}
use Rattle.argus_refinement.specs.CellRefinement.{AreSeen, IsCell, history_numbers, stack, numbered_versions}
use Rattle.argus_refinement.specs.TreeRefinement.{IsTree}
use Rattle.argus_model.proofs.{Bools.eqb_sym, Holders.holders_rising, LockRules.holders_live}
use Rattle.argus_model.proofs.{NextHolders.no_base_holder, Siblings.live_begun, Numbers.{IsRising, joined, joined_left}}
use Rattle.argus_model.proofs.{Numbers.{rising-more, rising_same}, Theorems.{one_above_the_other, writers_in_line}}
use Rattle.argus_model.specs.{Contents.sees, History.History, Holders.{readers, writers}, Lawful.Lawful}
use Rattle.argus_model.specs.{Numbers.contains, Status.is_begun}
use Rattle.argus_objects.specs.{CellChanges.has_version, Object.{Object, PlainVersion, holders}, Rules.are_related}
use Rattle.argus_objects.specs.Rules.{is_ascending, is_chain, is_lawful, is_related, is_strictly_above}
use Rattle.argus_model.specs.Ancestors as model

-- the last comes first in the reverse
last_first : {X : Type 0} (x : X) (xs : List X) → reverse (x ∷ xs) ≡ reverse xs ++ x ∷ []
last_first x xs = reverse_onto xs x []

contains_append : (xs ys : List ℕ) (n : ℕ) → contains (xs ++ ys) n ≡ (contains xs n || contains ys n)
contains_append [] ys n = refl
contains_append (x ∷ xs) ys n = grind (arith, nat_tests, contains_append xs ys n)

stack_more : (v : PlainVersion) (vs : List PlainVersion) → stack (v ∷ vs) ≡ stack vs ++ (v.holder.0 + 1) ∷ []
stack_more v vs = grind (arith, nat_tests, last_first, map-append)

-- their members
pub stack_members : (vs : List PlainVersion) (x : ActionId) → contains (stack vs) (x.0 + 1) ≡ has_version x vs
stack_members [] x = refl
stack_members (v ∷ vs) x = grind (arith, nat_tests, stack_more, contains_append, eqb_sym, stack_members vs x)

no_zero : (ids : List ActionId) → contains (history_numbers ids) 0 ≡ false
no_zero [] = refl
no_zero (x ∷ ids) = grind (arith, nat_tests, no_zero ids)

-- a member is an action
member_of : (ids : List ActionId) (n : ℕ) → contains (history_numbers ids) n ≡ true → (x : ActionId) × (x.0 + 1 ≡ n)
member_of [] n e = absurd (false≢true e)
member_of (y ∷ ids) n e = grind (arith, nat_tests, member_of ids n)

-- a chain rises
pub chain_rises : (t : Tree) (vs : List PlainVersion) → is_chain t (holders vs) ≡ true → IsRising (stack vs)
chain_rises t [] c = tt
chain_rises t (v ∷ vs) c =
    let q = and_parts (list_all (λ x. is_strictly_above t x v.holder) (holders vs)) (is_chain t (holders vs)) c in
    subst IsRising (sym (stack_more v vs))
    (rising-more (stack vs) (v.holder.0 + 1) (chain_rises t vs q.1)
    (λ n m.
    let by_at = all_at (λ k. is_ancestor t k v.holder.0 && not (eqb k v.holder.0)) vs in
    grind (arith, nat_tests, member_of (reverse (holders vs)) n m, stack_members vs, by_at, above_le t.folded t.rows)))

module _ (s : Opening) (h : History PlainEntry) (l : Lawful entries (model_opening s) h) (o : ℕ) where
  writers_rise : IsRising (writers entries h o)
  writers_rise = holders_rising entries.writes h o

  -- the holders of versions are the writers, in their order
  pub stack_is : (t : Tree) (c : Object) → IsCell s h t o c → stack c.versions ≡ writers entries h o
  stack_is t c k =
      rising_same (stack c.versions) (writers entries h o)
      (chain_rises t c.versions (and_parts (is_chain t (holders c.versions))
      (list_all (is_related t (holders c.versions)) c.readers) k.lawful).0)
      writers_rise
      (λ n.
      elim (cases_eq n 0) [
        | inl e ↦ grind (arith, nat_tests, no_zero, no_base_holder)
        | inr ne ↦
            let x : ActionId = record { 0 = n - 1 } in
            let same : x.0 + 1 ≡ n = omega arith in
            ap (contains (stack c.versions)) (sym same) ∙ stack_members c.versions x ∙ k.writers x
            ∙ ap (contains (writers entries h o)) same
      ])

  -- the versions in their order, each with what its holder sees
  pub told_is : (vs : List PlainVersion) → AreSeen s h o vs
      → numbered_versions vs ≡ map {B = ℕ × Option PlainContent} (λ a. (a, sees entries (model_opening s) h (a + 1) o))
      (map (λ x. x - 1) (stack vs))
  told_is [] k = refl
  told_is (v ∷ vs) k = grind (arith, nat_tests, stack_more, map-append, told_is vs k.1)

-- what comes before the last of a rising list rises and is below it
rising_front : (xs : List ℕ) (n : ℕ) → IsRising (xs ++ n ∷ []) → ((m : ℕ) → contains xs m ≡ true → m < n) × IsRising xs
rising_front [] n r = (λ m e. absurd (false≢true e), tt)
rising_front (x ∷ xs) n r =
    grind (arith, nat_tests, contains_append xs (n ∷ []) n, contains_append xs (n ∷ []), rising_front xs n r.1)

module _ (s : Opening) (h : History PlainEntry) (l : Lawful entries (model_opening s) h) (o : ℕ) (t : Tree)
    (is : IsTree t h)
  where
    begun_holder : (y : ActionId) → contains (readers entries h o ++ writers entries h o) (y.0 + 1) ≡ true
        → is_begun h (y.0 + 1) ≡ true
    begun_holder y e = live_begun h (y.0 + 1) (holders_live entries h (orderly s h l) o (y.0 + 1) e)

    in_tree : (x y : ActionId) → contains (readers entries h o ++ writers entries h o) (x.0 + 1) ≡ true
        → contains (readers entries h o ++ writers entries h o) (y.0 + 1) ≡ true
        → is_ancestor t x.0 y.0 ≡ model.is_ancestor h (x.0 + 1) (y.0 + 1)
    in_tree x y hx hy = ancestor_begun_is t h is (orderly s h l) x.0 y.0 (begun_holder x hx) (begun_holder y hy)

    as_writer : (x : ActionId) → contains (writers entries h o) (x.0 + 1) ≡ true
        → contains (readers entries h o ++ writers entries h o) (x.0 + 1) ≡ true
    as_writer x e = joined (readers entries h o) (writers entries h o) (x.0 + 1) e

    -- versions whose holders are writers, in rising order, make a chain
    chain_from : (vs : List PlainVersion) → ((x : ActionId) → has_version x vs ≡ true
        → contains (writers entries h o) (x.0 + 1) ≡ true) → IsRising (stack vs) → is_chain t (holders vs) ≡ true
    chain_from [] w r = refl
    chain_from (v ∷ vs) w r =
        let q = rising_front (stack vs) (v.holder.0 + 1) (subst IsRising (stack_more v vs) r) in
        let own : contains (writers entries h o) (v.holder.0 + 1) ≡ true =
        w v.holder
        (or_left (eqb v.holder.0 v.holder.0) (has_version v.holder vs) (eq-eqb v.holder.0 v.holder.0 refl)) in
        and_from (list_all (λ x. is_strictly_above t x v.holder) (holders vs)) (is_chain t (holders vs))
        (all_from (λ x. is_strictly_above t x v.holder) vs
        (λ x e.
        let by_members = stack_members vs x in
        let by_writer = as_writer v.holder own in
        let by_line = writers_in_line entries (model_opening s) h o (x.0 + 1) (v.holder.0 + 1) l in
        grind (arith, nat_tests, w x, q.0 (x.0 + 1), by_members, in_tree x v.holder, as_writer x, by_writer, by_line)))
        (chain_from vs (λ x e. w x (or_right (eqb v.holder.0 x.0) (has_version x vs) e)) q.1)

    -- each reader is related to each writer
    related_from : (vs : List PlainVersion) → ((x : ActionId) → has_version x vs ≡ true
        → contains (writers entries h o) (x.0 + 1) ≡ true) → (y : ActionId)
        → contains (readers entries h o) (y.0 + 1) ≡ true → is_related t (holders vs) y ≡ true
    related_from vs w y hy =
        let reads : contains (readers entries h o ++ writers entries h o) (y.0 + 1) ≡ true =
        joined_left (readers entries h o) (writers entries h o) (y.0 + 1) hy in
        all_from (are_related t y) vs
        (λ x e.
        let wx = w x e in
        grind (arith, nat_tests, in_tree, as_writer, one_above_the_other))

    all_readers : (rs : List ActionId) (p : ActionId → Bool)
        → ((y : ActionId) → contains (history_numbers rs) (y.0 + 1) ≡ true → p y ≡ true) → list_all p rs ≡ true
    all_readers [] p f = refl
    all_readers (y ∷ rs) p f = grind (arith, nat_tests, all_readers rs p)

    -- a cell with the holders of the history, its versions in rising order, is lawful
    pub lawful_by_exclusion : (c : Object) → IsRising (stack c.versions) → history_numbers c.readers
        ≡ readers entries h o
        → ((x : ActionId) → has_version x c.versions ≡ contains (writers entries h o) (x.0 + 1)) → is_lawful t c ≡ true
    lawful_by_exclusion c rise reads writes = grind (arith, nat_tests, chain_from, all_readers, related_from)

-- actions in increasing number rise
pub rises : (ids : List ActionId) → is_ascending ids ≡ true → IsRising (history_numbers ids)
rises [] e = tt
rises (x ∷ ids) e =
    let q = and_parts (list_all (λ y. nat_lt x.0 y.0) ids) (is_ascending ids) e in
    (below x ids q.0, rises ids q.1)
  where
    below : (x : ActionId) (ids : List ActionId) → list_all (λ y. nat_lt x.0 y.0) ids ≡ true → (m : ℕ)
        → contains (history_numbers ids) m ≡ true → x.0 + 1 < m
    below x [] e m i = absurd (false≢true i)
    below x (y ∷ ids) e m i =
        let q = and_parts (nat_lt x.0 y.0) (list_all (λ y. nat_lt x.0 y.0) ids) e in
        ⊎_elim (λ k. let lt = ltb-true x.0 y.0 q.0 in let same = eqb-true m (y.0 + 1) k in omega arith)
        (λ k. below x ids q.1 m k)
        (or_cases (eqb m (y.0 + 1)) (contains (history_numbers ids) m) i)
