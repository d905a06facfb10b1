-- Each change of a cell keeps it lawful.
use Rattle.std.proofs.Common.{◌≡◌, ◌≢◌, Bool, true, false, not, cond, eqb, ◌&&◌, ◌||◌, List, [], ◌∷◌, map, filter}
use Rattle.std.proofs.{Common.{Option, subst, refl, sym, ◌∙◌, ap, inl, inr, arith}, lemmas.List.reverse-reverse}
use Rattle.std.proofs.lemmas.Bool.{eqb-false, cases_Bool, and_parts, and_from, not-true, false≢true, Decides.nat_tests}
use Rattle.std.specs.{Prelude.{OnOk, OnErr, Result, Ok, Err}, List.list_all}
use Rattle.argus_actions.specs.{declared.action_id.ActionId.ActionId, Tree.{Tree, is_ancestor}}
use Rattle.argus_memory.specs.declared.out_of_memory.OutOfMemory.{OutOfMemory}
use Rattle.argus_contents.specs.Content.{PlainContent}
use Rattle.argus_objects.specs.{declared.version.Version.Version, Rules.{AreInOrder, all_above, are_related}}
use Rattle.argus_objects.specs.{Rules.{is_ascending, is_chain, is_related, is_strictly_above}, Object.PlainVersion}
use Rattle.argus_objects.specs.{Object.{versions_newest_first, holders, writers}, CellChanges.{is_reader, has_version}}
use Rattle.argus_objects.specs.CellChanges.{with_reader, without_reader, readers_inherited, with_version}
use Rattle.argus_objects.{specs.CellChanges.{without_version, versions_inherited}, proofs.Chains.{IsParent, all_imp}}
use Rattle.argus_objects.proofs.Chains.{all_moved, all_filter, all_filtered, chain_moved, chain_filter, strictly_from}
use Rattle.argus_objects.proofs.Chains.{renamed, renamed_same, renamed_other, renamed_strictly, renamed_related}
use Rattle.argus_objects.proofs.{Ascending.{chain_ascends, ascending_filter}, InOrder.{all_with, ascending_with}}
use Rattle.argus_objects.proofs.{InOrder.ascending_inherited, Stacks.{holders_newest, holders_filter, holders_handed}}

-- what is so of the readers and of the holders, from descendant to ancestor
pub record Lawful (t : Tree) (readers ids : List ActionId) : Type 0 where
  pub chain : is_chain t ids ≡ true
  pub related : list_all (is_related t ids) readers ≡ true

pub lawful_parts : (t : Tree) (readers ids : List ActionId)
    → (is_chain t ids && list_all (is_related t ids) readers) ≡ true → Lawful t readers ids
lawful_parts t readers ids h = grind (arith, nat_tests)

pub lawful_from : (t : Tree) (readers ids : List ActionId) → Lawful t readers ids
    → (is_chain t ids && list_all (is_related t ids) readers) ≡ true
lawful_from t readers ids h = and_from (is_chain t ids) (list_all (is_related t ids) readers) h.chain h.related

-- the holders of a lawful cell stand in increasing number
pub writers_ascend : (t : Tree) (vs : List Version) → is_chain t (holders (versions_newest_first vs)) ≡ true
    → is_ascending (writers vs) ≡ true
writers_ascend t vs chain = grind (arith, nat_tests, reverse-reverse, chain_ascends, holders_newest)

pub lawful_read : (t : Tree) (a : ActionId) (readers ids : List ActionId) → Lawful t readers ids
    → all_above t a ids ≡ true → Lawful t (with_reader a readers) ids
lawful_read t a readers ids h up = grind (arith, nat_tests, all_with, all_imp)

-- some of the holders and of the readers go
pub lawful_less : (t : Tree) (keep keep' : ActionId → Bool) (readers ids : List ActionId) → Lawful t readers ids
    → Lawful t (filter keep readers) (filter keep' ids)
lawful_less t keep keep' readers ids h = grind (arith, nat_tests, chain_filter, all_filter, all_imp)

-- who is above the action is related to it, and to all that it was related to
related_above : (t : Tree) (a : ActionId) (p : ActionId → Bool) (rs : List ActionId) → all_above t a rs ≡ true
    → list_all p rs ≡ true → list_all (λ r. are_related t r a && p r) rs ≡ true
related_above t a p [] u k = refl
related_above t a p (r ∷ rs) u k = grind (arith, nat_tests, related_above t a p rs)

-- a holder below all that are left, and below all readers
pub lawful_write : (t : Tree) (a : ActionId) (readers ids : List ActionId) → Lawful t readers ids
    → all_above t a ids ≡ true → all_above t a readers ≡ true
    → Lawful t readers (a ∷ filter (λ x. not (eqb x.0 a.0)) ids)
lawful_write t a readers ids h up up' =
    let keep : ActionId → Bool = λ x. not (eqb x.0 a.0) in
    let related : list_all (is_related t (filter keep ids)) readers ≡ true =
    all_imp (is_related t ids) (is_related t (filter keep ids)) (λ r k. all_filter (λ y. are_related t r y) keep ids k)
    readers h.related in
    record {
      chain = and_from _ _
          (all_filtered (λ x. is_ancestor t x.0 a.0) (λ x. is_strictly_above t x a) keep
          (λ x k u. strictly_from t x a u (eqb-false x.0 a.0 (not-true (eqb x.0 a.0) k))) ids up)
          (chain_filter t keep ids h.chain);
      related = related_above t a (is_related t (filter keep ids)) readers up' related;
    }

-- what holds of all others holds of all where s isn't one
all_others : (s : ActionId) (p q : ActionId → Bool) → ((x : ActionId) → x.0 ≢ s.0 → p x ≡ true → q x ≡ true)
    → (xs : List ActionId) → is_reader s xs ≡ false → list_all p xs ≡ true → list_all q xs ≡ true
all_others s p q h [] lacks all = refl
all_others s p q h (x ∷ xs) lacks all = grind (arith, nat_tests, all_others s p q h xs)

-- what holds of all holds of one with the number of s
found : (s : ActionId) (p : ActionId → Bool) (xs : List ActionId) → is_reader s xs ≡ true → list_all p xs ≡ true
    → (r : ActionId) × ((r.0 ≡ s.0) × (p r ≡ true))
found s p [] is all = absurd (false≢true is)
found s p (x ∷ xs) is all = grind (arith, nat_tests, found s p xs)

-- the holders with the parent in the place of s
abbrev pub ids_inherited : ActionId → ActionId → List ActionId → List ActionId
ids_inherited s p ids = cond (is_reader s ids) (map (renamed s p) (filter (λ x. not (eqb x.0 p.0)) ids)) ids

module _ (t : Tree) (s p : ActionId) (is : IsParent t p s) (ids : List ActionId) where
  chain_inherited : is_chain t ids ≡ true → is_chain t (ids_inherited s p ids) ≡ true
  chain_inherited chain = grind (arith, nat_tests, chain_moved, renamed_strictly)

  related_inherited : (r : ActionId) → is_related t ids r ≡ true
      → is_related t (ids_inherited s p ids) (renamed s p r) ≡ true
  related_inherited r rel =
      grind (
        arith,
        nat_tests,
        all_moved (λ y. are_related t r y) (λ y. are_related t (renamed s p r) y) (λ x. not (eqb x.0 p.0))
            (renamed s p) (λ x k h. renamed_related t s p is r x h) ids rel,
        all_others s (λ y. are_related t r y) (λ y. are_related t (renamed s p r) y) (λ x ne h. subst (λ
            (w : ActionId). are_related t (renamed s p r) w ≡ true) (renamed_other s p x ne)
            (renamed_related t s p is r x h)) ids,
        renamed_other s p,
        renamed_related t s p is r,
      )

  other_inherited : (r : ActionId) → r.0 ≢ s.0 → is_related t ids r ≡ true
      → is_related t (ids_inherited s p ids) r ≡ true
  other_inherited r ne rel = subst (λ (w : ActionId). is_related t (ids_inherited s p ids) w ≡ true)
      (renamed_other s p r ne) (related_inherited r rel)

  readers_related : (readers : List ActionId) → list_all (is_related t ids) readers ≡ true
      → list_all (is_related t (ids_inherited s p ids)) (readers_inherited s p readers) ≡ true
  readers_related readers rel =
      elim (cases_Bool (is_reader s readers)) [
        | inl b ↦
            let r : (r : ActionId) × ((r.0 ≡ s.0) × (is_related t ids r ≡ true)) =
            found s (is_related t ids) readers b rel in
            let parent_related : is_related t (ids_inherited s p ids) p ≡ true =
            subst (λ (w : ActionId). is_related t (ids_inherited s p ids) w ≡ true) (renamed_same s p r.0 r.1.0)
            (related_inherited r.0 r.1.1) in
            ap (λ c. list_all (is_related t (ids_inherited s p ids))
            (cond c (with_reader p (without_reader s readers)) readers)) b
            ∙ all_with (is_related t (ids_inherited s p ids)) p (without_reader s readers) parent_related
            (all_filtered (is_related t ids) (is_related t (ids_inherited s p ids)) (λ x. not (eqb x.0 s.0))
            (λ x k h. other_inherited x (eqb-false x.0 s.0 (not-true (eqb x.0 s.0) k)) h) readers rel)
        | inr b ↦
            ap (λ c. list_all (is_related t (ids_inherited s p ids))
            (cond c (with_reader p (without_reader s readers)) readers)) b
            ∙ all_others s (is_related t ids) (is_related t (ids_inherited s p ids)) other_inherited readers b rel
      ]

  pub lawful_inherited : (readers : List ActionId) → Lawful t readers ids
      → Lawful t (readers_inherited s p readers) (ids_inherited s p ids)
  lawful_inherited readers h = record { chain = chain_inherited h.chain; related = readers_related readers h.related }

has_holder : (s : ActionId) (vs : List PlainVersion) → has_version s vs ≡ is_reader s (holders vs)
has_holder s [] = refl
has_holder s (v ∷ vs) = ap (λ b. eqb v.holder.0 s.0 || b) (has_holder s vs)

pub holders_inherited : (s p : ActionId) (vs : List PlainVersion)
    → holders (versions_inherited s p vs) ≡ ids_inherited s p (holders vs)
holders_inherited s p vs =
    let has = has_holder s vs in
    let handed = holders_handed s p (without_version p vs) in
    let kept = holders_filter (λ x. not (eqb x.0 p.0)) vs in
    grind (arith, nat_tests, has, handed, kept)

-- what a lawful cell's lists say of their order
pub in_order : (t : Tree) (readers : List ActionId) (vs : List Version) → is_ascending readers ≡ true
    → is_chain t (holders (versions_newest_first vs)) ≡ true → AreInOrder readers vs
in_order t readers vs asc chain = record { readers_ascend = asc; writers_ascend = writers_ascend t vs chain }

-- the lists are in order and lawful
pub record Kept (t : Tree) (readers : List ActionId) (vs : List Version) : Type 0 where
  pub order : AreInOrder readers vs
  pub lawful : (is_chain t (holders (versions_newest_first vs)) && list_all (is_related t (holders
      (versions_newest_first vs))) readers)
      ≡ true

kept_from : (t : Tree) (rs : List ActionId) (vs : List Version) → is_ascending rs ≡ true
    → Lawful t rs (holders (versions_newest_first vs)) → Kept t rs vs
kept_from t rs vs asc law = grind (arith, nat_tests, in_order, lawful_from)

-- and stay so
module _ {t : Tree} {rs : List ActionId} {vs : List Version} (k : Kept t rs vs) (rs' : List ActionId)
    (vs' : List Version) where
  before : Lawful t rs (holders (versions_newest_first vs))
  before = lawful_parts t rs (holders (versions_newest_first vs)) k.lawful

  kept_by : (new : List ActionId) (ids : List ActionId) → rs' ≡ new → holders (versions_newest_first vs') ≡ ids
      → is_ascending new ≡ true → Lawful t new ids → Kept t rs' vs'
  kept_by new ids e f asc law =
      kept_from t rs' vs' (ap is_ascending e ∙ asc)
      (subst (λ (xs : List ActionId). Lawful t xs (holders (versions_newest_first vs'))) (sym e)
      (subst (λ (xs : List ActionId). Lawful t new xs) (sym f) law))

  pub kept_read : (a : ActionId) → all_above t a (holders (versions_newest_first vs)) ≡ true → rs' ≡ with_reader a rs
      → vs' ≡ vs → Kept t rs' vs'
  kept_read a up e f =
      kept_by _ _ e (ap (λ ws. holders (versions_newest_first ws)) f) (ascending_with a rs k.order.readers_ascend)
      (lawful_read t a rs (holders (versions_newest_first vs)) before up)

  pub kept_write : (a : ActionId) (content : Option PlainContent)
      → (all_above t a (holders (versions_newest_first vs)) && all_above t a rs) ≡ true → rs' ≡ rs
      → versions_newest_first vs' ≡ with_version a content (versions_newest_first vs) → Kept t rs' vs'
  kept_write a content up e f =
      let ids : List ActionId = holders (versions_newest_first vs) in
      let ups = and_parts (all_above t a ids) (all_above t a rs) up in
      kept_by rs (a ∷ filter (λ x. not (eqb x.0 a.0)) ids) e
      (ap holders f ∙ ap (λ xs. a ∷ xs) (holders_filter (λ x. not (eqb x.0 a.0)) (versions_newest_first vs)))
      k.order.readers_ascend (lawful_write t a rs ids before ups.0 ups.1)

  pub kept_inherit : (s p : ActionId) → IsParent t p s → rs' ≡ readers_inherited s p rs
      → versions_newest_first vs' ≡ versions_inherited s p (versions_newest_first vs) → Kept t rs' vs'
  kept_inherit s p is e f =
      kept_by _ _ e (ap holders f ∙ holders_inherited s p (versions_newest_first vs))
      (ascending_inherited s p rs k.order.readers_ascend)
      (lawful_inherited t s p is (holders (versions_newest_first vs)) rs before)

  pub kept_less : (keep keep' : ActionId → Bool) → rs' ≡ filter keep rs
      → versions_newest_first vs' ≡ filter (λ v. keep' v.holder) (versions_newest_first vs) → Kept t rs' vs'
  kept_less keep keep' e f =
      kept_by _ _ e (ap holders f ∙ holders_filter keep' (versions_newest_first vs))
      (ascending_filter keep rs k.order.readers_ascend)
      (lawful_less t keep keep' rs (holders (versions_newest_first vs)) before)

  pub kept_change : {R : Type 0} (r : Result R OutOfMemory) (a : ActionId) (content : Option PlainContent)
      → (all_above t a (holders (versions_newest_first vs)) && all_above t a rs) ≡ true → rs' ≡ rs
      → OnOk r (versions_newest_first vs' ≡ with_version a content (versions_newest_first vs))
      → OnErr r (versions_newest_first vs' ≡ versions_newest_first vs) → Kept t rs' vs'
  kept_change (Ok answer) a content up e ok err = kept_write a content up e ok
  kept_change (Err refused) a content up e ok err = kept_by rs _ e (ap holders err) k.order.readers_ascend before
