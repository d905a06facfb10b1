-- Chains of holders, and which actions are related to them.
use Rattle.std.proofs.Common.{◌≡◌, ◌≢◌, ℕ, ◌<◌, Bool, true, not, cond, eqb, ◌&&◌, ◌||◌, List, [], ◌∷◌, map, filter}
use Rattle.std.proofs.{Common.{Some, subst, refl, sym, ◌∙◌, ap, arith, inl, inr}, lemmas.Bool.{eq-eqb, ne_eqb}}
use Rattle.std.{proofs.lemmas.Bool.{cases_Bool, and_parts, and_from, Decides.nat_tests}, specs.List.list_all}
use Rattle.argus_actions.specs.{declared.action_id.ActionId.ActionId, Tree.{Tree, is_ancestor, parent_of}}
use Rattle.argus_actions.proofs.Above.{above_le, above_self, above_trans, above_up}
use Rattle.argus_objects.specs.Rules.{all_above, is_strictly_above, is_chain, are_related}

pub all_imp : {X : Type 0} (p q : X → Bool) → ((x : X) → p x ≡ true → q x ≡ true) → (xs : List X) → list_all p xs ≡ true
    → list_all q xs ≡ true
all_imp p q h [] all = refl
all_imp p q h (x ∷ xs) all = grind (arith, nat_tests, all_imp p q h xs)

-- what holds of each that is kept, holds of each image
pub all_moved : {X : Type 0} (p q keep : X → Bool) (f : X → X) → ((x : X) → keep x ≡ true → p x ≡ true → q (f x) ≡ true)
    → (xs : List X) → list_all p xs ≡ true → list_all q (map f (filter keep xs)) ≡ true
all_moved p q keep f h [] all = refl
all_moved {X} p q keep f h (x ∷ xs) all = grind (arith, nat_tests, all_moved p q keep f h xs)

pub all_filter : {X : Type 0} (p keep : X → Bool) (xs : List X) → list_all p xs ≡ true
    → list_all p (filter keep xs) ≡ true
all_filter p keep [] all = refl
all_filter p keep (x ∷ xs) all = grind (arith, nat_tests, all_filter p keep xs)

-- a filter that keeps what is so, and some more
pub all_filtered : {X : Type 0} (p q keep : X → Bool) → ((x : X) → keep x ≡ true → p x ≡ true → q x ≡ true)
    → (xs : List X) → list_all p xs ≡ true → list_all q (filter keep xs) ≡ true
all_filtered p q keep h [] all = refl
all_filtered p q keep h (x ∷ xs) all = grind (arith, nat_tests, all_filtered p q keep h xs)

pub strictly_parts : (t : Tree) (x y : ActionId) → is_strictly_above t x y ≡ true
    → (is_ancestor t x.0 y.0 ≡ true) × (x.0 ≢ y.0)
strictly_parts t x y h = grind (arith, nat_tests)

pub strictly_from : (t : Tree) (x y : ActionId) → is_ancestor t x.0 y.0 ≡ true → x.0 ≢ y.0
    → is_strictly_above t x y ≡ true
strictly_from t x y up ne = grind (arith, nat_tests, up)

-- of a chain the newest decides whether all are ancestors
pub newest_above : (t : Tree) (a y : ActionId) (older : List ActionId) → is_chain t (y ∷ older) ≡ true
    → is_ancestor t y.0 a.0 ≡ all_above t a (y ∷ older)
newest_above t a y older chain =
    elim (cases_Bool (is_ancestor t y.0 a.0)) [
      | inl up ↦ up ∙ sym (and_from (is_ancestor t y.0 a.0) (all_above t a older) up
          (all_imp (λ x. is_strictly_above t x y) (λ x. is_ancestor t x.0 a.0)
          (λ x h. above_trans t.folded t.rows x.0 y.0 a.0 (strictly_parts t x y h).0 up) older
          (and_parts (list_all (λ x. is_strictly_above t x y) older) (is_chain t older) chain).0))
      | inr off ↦ off ∙ sym (ap (λ b. b && all_above t a older) off)
    ]

pub strictly_lt : (t : Tree) (x y : ActionId) → is_strictly_above t x y ≡ true → x.0 < y.0
strictly_lt t x y h = grind (arith, nat_tests, above_le)

-- a chain moved by what keeps the order
pub chain_moved : (t : Tree) (keep : ActionId → Bool) (f : ActionId → ActionId) → ((x y : ActionId) → keep x ≡ true
    → keep y ≡ true → is_strictly_above t x y ≡ true → is_strictly_above t (f x) (f y) ≡ true) → (ids : List ActionId)
    → is_chain t ids ≡ true → is_chain t (map f (filter keep ids)) ≡ true
chain_moved t keep f h [] chain = refl
chain_moved t keep f h (y ∷ older) chain = grind (arith, nat_tests, all_moved, chain_moved t keep f h older)

pub chain_filter : (t : Tree) (keep : ActionId → Bool) (ids : List ActionId) → is_chain t ids ≡ true
    → is_chain t (filter keep ids) ≡ true
chain_filter t keep [] chain = refl
chain_filter t keep (y ∷ older) chain = grind (arith, nat_tests, all_filter, chain_filter t keep older)

-- an action renamed
abbrev pub renamed : ActionId → ActionId → ActionId → ActionId
renamed s p x = cond (eqb x.0 s.0) p x

pub renamed_same : (s p x : ActionId) → x.0 ≡ s.0 → renamed s p x ≡ p
renamed_same s p x e = ap (λ b. cond b p x) (eq-eqb x.0 s.0 e)

pub renamed_other : (s p x : ActionId) → x.0 ≢ s.0 → renamed s p x ≡ x
renamed_other s p x ne = ap (λ b. cond b p x) (ne_eqb x.0 s.0 ne)

-- this is the parent of s, which makes it an ancestor of s
pub record IsParent (tree : Tree) (parent s : ActionId) : Type 0 where
  pub linked : parent_of tree s.0 ≡ Some parent
  pub above : is_ancestor tree parent.0 s.0 ≡ true

module _ (t : Tree) (s p : ActionId) (is : IsParent t p s) where
  up : (x : ActionId) → is_ancestor t x.0 s.0 ≡ true → x.0 ≢ s.0 → is_ancestor t x.0 p.0 ≡ true
  up x a ne = above_up t.folded t.rows x.0 s.0 p is.linked a ne

  down : (y : ActionId) → is_ancestor t s.0 y.0 ≡ true → is_ancestor t p.0 y.0 ≡ true
  down y a = above_trans t.folded t.rows p.0 s.0 y.0 is.above a

  -- the parent in the place of s keeps the order of all but the parent
  pub renamed_strictly : (x y : ActionId) → not (eqb x.0 p.0) ≡ true → not (eqb y.0 p.0) ≡ true
      → is_strictly_above t x y ≡ true → is_strictly_above t (renamed s p x) (renamed s p y) ≡ true
  renamed_strictly x y kx ky h = grind (arith, nat_tests, renamed_same, renamed_other, strictly_from, down, up)

  related_one : (y : ActionId) → are_related t s y ≡ true → are_related t p (renamed s p y) ≡ true
  related_one y h = grind (arith, nat_tests, renamed_same, above_self, renamed_other, down, up)

  same_number : (x : ActionId) → x.0 ≡ s.0 → (y : ActionId) → are_related t x y ≡ true → are_related t s y ≡ true
  same_number x e y h = subst (λ (w : ℕ). (is_ancestor t w y.0 || is_ancestor t y.0 w) ≡ true) e h

  -- whoever is related stays so
  pub renamed_related : (x y : ActionId) → are_related t x y ≡ true
      → are_related t (renamed s p x) (renamed s p y) ≡ true
  renamed_related x y h = grind (arith, nat_tests, renamed_same, related_one, same_number, renamed_other)
