-- Members of the lists of a cell, and its readers as the history numbers them.
use Rattle.std.proofs.Common.{Bool, List, [], ap, arith, cond, false, refl, true, ℕ, ◌+◌, ◌∷◌, ◌≡◌, ◌≢◌, eqb, ◌||◌}
use Rattle.std.{proofs.lemmas.Bool.Decides.nat_tests, specs.{List.{filter, list_all}, Prelude.{map, ◌&&◌}}}
use Rattle.argus_actions.specs.{Tree.{Tree, is_ancestor}, declared.action_id.ActionId.ActionId}
use Rattle.argus_objects.specs.CellChanges.{version_inherited, has_version, is_reader, readers_inherited}
use Rattle.argus_objects.specs.{CellChanges.{versions_inherited, with_reader, without_version}, Object.Object}
use Rattle.argus_objects.specs.{Object.{PlainVersion, holders}, Rules.{are_related, is_chain, is_lawful}}
use Rattle.argus_objects.{specs.Rules.is_strictly_above, proofs.Chains.all_imp}
use Rattle.argus_model.specs.{Holders.inherited, Numbers.{contains, insert}}
use Rattle.argus_refinement.specs.CellRefinement.{history_numbers}

-- what holds of each holder of a version
pub all_from : (p : ActionId → Bool) (vs : List PlainVersion) → ((x : ActionId) → has_version x vs ≡ true → p x ≡ true)
    → list_all p (holders vs) ≡ true
all_from p [] f = refl
all_from p (v ∷ vs) f = grind (arith, nat_tests, all_from p vs)

pub all_at : (p : ℕ → Bool) (vs : List PlainVersion) (x : ActionId) → list_all (λ a. p a.0) (holders vs) ≡ true
    → has_version x vs ≡ true → p x.0 ≡ true
all_at p [] x e k = cc
all_at p (v ∷ vs) x e k = grind (arith, nat_tests, all_at p vs x)

-- a lawful cell stays so in a tree where who was an ancestor still is
module _ (t t' : Tree) (more : (x y : ℕ) → is_ancestor t x y ≡ true → is_ancestor t' x y ≡ true) where
  strictly_more : (x y : ActionId) → is_strictly_above t x y ≡ true → is_strictly_above t' x y ≡ true
  strictly_more x y e = grind (arith, nat_tests)

  related_more : (x y : ActionId) → are_related t x y ≡ true → are_related t' x y ≡ true
  related_more x y e = grind (arith, nat_tests)

  chain_more : (ids : List ActionId) → is_chain t ids ≡ true → is_chain t' ids ≡ true
  chain_more [] e = refl
  chain_more (y ∷ ids) e = grind (arith, nat_tests, all_imp, strictly_more, chain_more ids)

  pub lawful_more : (c : Object) → is_lawful t c ≡ true → is_lawful t' c ≡ true
  lawful_more c e = grind (arith, nat_tests, chain_more, all_imp, related_more)

-- readers, as the history numbers them

pub reader_said : (a : ActionId) (rs : List ActionId) → is_reader a rs ≡ contains (history_numbers rs) (a.0 + 1)
reader_said a [] = refl
reader_said a (x ∷ rs) = grind (arith, nat_tests, reader_said a rs)

pub filter_said : (p : ActionId → Bool) (q : ℕ → Bool) (rs : List ActionId)
    → ((x : ActionId) → contains (history_numbers rs) (x.0 + 1) ≡ true → p x ≡ q (x.0 + 1))
    → history_numbers (filter p rs) ≡ filter q (history_numbers rs)
filter_said p q [] f = refl
filter_said p q (x ∷ rs) f = grind (arith, nat_tests, filter_said p q rs)

pub with_said : (a : ActionId) (rs : List ActionId) → history_numbers (with_reader a rs) ≡ insert (a.0 + 1)
    (history_numbers rs)
with_said a [] = refl
with_said a (x ∷ rs) = grind (arith, nat_tests, with_said a rs)

-- a parent in the place of a subaction
pub inherited_said : (a p : ActionId) (rs : List ActionId)
    → history_numbers (readers_inherited a p rs) ≡ inherited (a.0 + 1) (p.0 + 1) (history_numbers rs)
inherited_said a p rs = grind (arith, nat_tests, with_said, filter_said, reader_said)

-- versions

filtered_more : (p : ℕ → Bool) (v : PlainVersion) (vs : List PlainVersion) (x : ActionId)
    → has_version x (filter (λ v. p v.holder.0) vs) ≡ (has_version x vs && p x.0) → (b : Bool) → p v.holder.0 ≡ b
    → has_version x (cond (p v.holder.0) (v ∷ filter (λ v. p v.holder.0) vs) (filter (λ v. p v.holder.0) vs))
    ≡ ((eqb v.holder.0 x.0 || has_version x vs) && p x.0)
filtered_more p v vs x ih b e = grind (arith, nat_tests)

pub has_filtered : (p : ℕ → Bool) (vs : List PlainVersion) (x : ActionId)
    → has_version x (filter (λ v. p v.holder.0) vs) ≡ (has_version x vs && p x.0)
has_filtered p [] x = refl
has_filtered p (v ∷ vs) x = filtered_more p v vs x (has_filtered p vs x) (p v.holder.0) refl

-- the versions with p in the place of a
module _ (a p : ActionId) where
  abbrev moved : List PlainVersion → List PlainVersion
  moved vs = map (version_inherited a p) (without_version p vs)

  stays : (v : PlainVersion) (vs : List PlainVersion) → v.holder.0 ≢ p.0 → v.holder.0 ≢ a.0
      → moved (v ∷ vs) ≡ v ∷ moved vs
  stays v vs n e = grind (arith, nat_tests)

  first : (b : Bool) (x : ActionId) (y : ℕ) → eqb y x.0 ≡ b → (rest : Bool) → (eqb y x.0 || rest) ≡ (b || rest)
  first b x y e rest = ap (λ c. c || rest) e

  moved_other : (vs : List PlainVersion) (x : ActionId) → x.0 ≢ a.0 → x.0 ≢ p.0
      → has_version x (moved vs) ≡ has_version x vs
  moved_other [] x na np = refl
  moved_other (v ∷ vs) x na np = grind (arith, nat_tests, moved_other vs x na np)

  moved_own : (vs : List PlainVersion) → p.0 ≢ a.0 → has_version a (moved vs) ≡ false
  moved_own [] pa = refl
  moved_own (v ∷ vs) pa = grind (arith, nat_tests, moved_own vs pa)

  moved_parent : (vs : List PlainVersion) → p.0 ≢ a.0 → has_version p (moved vs) ≡ has_version a vs
  moved_parent [] pa = refl
  moved_parent (v ∷ vs) pa = grind (arith, nat_tests, moved_parent vs pa)

  pub inherits_other : (vs : List PlainVersion) (x : ActionId) → x.0 ≢ a.0 → x.0 ≢ p.0
      → has_version x (versions_inherited a p vs) ≡ has_version x vs
  inherits_other vs x na np = grind (arith, nat_tests, moved_other)

  pub inherits_own : (vs : List PlainVersion) → p.0 ≢ a.0 → has_version a (versions_inherited a p vs) ≡ false
  inherits_own vs pa = grind (arith, nat_tests, moved_own)

  pub inherits_parent : (vs : List PlainVersion) → p.0 ≢ a.0
      → has_version p (versions_inherited a p vs) ≡ (has_version a vs || has_version p vs)
  inherits_parent vs pa = grind (arith, nat_tests, moved_parent)
