-- A cell as actions begin and end.
use Rattle.std.proofs.Common.{◌≡◌, Bool, true, ◌&&◌, List, [], ◌∷◌, filter, refl, ap, arith}
use Rattle.std.proofs.lemmas.Bool.Decides.{nat_tests}
use Rattle.argus_actions.specs.{declared.action_id.ActionId.ActionId, Tree.Tree}
use Rattle.argus_objects.specs.{Object.Object, Rules.{may_write, KeepsAncestors, all_above, is_chain, is_lawful}}
use Rattle.argus_objects.proofs.Chains.{all_imp}

module _ (t u : Tree) (keeps : KeepsAncestors t u) where
  pub above_more : (a : ActionId) (ids : List ActionId) → all_above t a ids ≡ true → all_above u a ids ≡ true
  above_more a ids up = grind (arith, nat_tests, all_imp)

  chain_more : (ids : List ActionId) → is_chain t ids ≡ true → is_chain u ids ≡ true
  chain_more [] h = refl
  chain_more (y ∷ older) h = grind (arith, nat_tests, all_imp, chain_more older)

  pub lawful_more : (o : Object) → is_lawful t o ≡ true → is_lawful u o ≡ true
  lawful_more o h = grind (arith, nat_tests, chain_more, all_imp)

  pub write_more : (a : ActionId) (o : Object) → may_write t o a ≡ true → may_write u o a ≡ true
  write_more a o h = grind (arith, nat_tests, above_more)

-- filters one after another
pub filter_twice : {X : Type 0} (p q r : X → Bool) → ((x : X) → (p x && q x) ≡ r x) → (xs : List X)
    → filter q (filter p xs) ≡ filter r xs
filter_twice p q r same [] = refl
filter_twice p q r same (x ∷ xs) = grind (arith, nat_tests, filter_twice p q r same xs)

pub filter_all : {X : Type 0} (p : X → Bool) → ((x : X) → p x ≡ true) → (xs : List X) → filter p xs ≡ xs
filter_all p all [] = refl
filter_all p all (x ∷ xs) = rw (all x) (ap (λ ys. x ∷ ys) (filter_all p all xs))
