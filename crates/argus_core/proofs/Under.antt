-- The action that another was begun under is its parent or its creator.
use Rattle.std.proofs.{Common.{None, Option, Some, ap, sym, ℕ, ◌∙◌, ◌≡◌, arith}, lemmas.Bool.Decides.nat_tests}
use Rattle.std.specs.Option.{option_and_then, option_map}
use Rattle.argus_actions.specs.{Refusals.abort_others_refusal, Row.{Row, under_of}, Rows.under_at, Tree.Tree}
use Rattle.argus_actions.specs.{Tree.{creator_by_origin, parent_by_origin}, declared.action_id.ActionId.ActionId}

pub under_parent : (q : Option Row) (p : ActionId) → option_and_then (λ row. parent_by_origin row.origin) q ≡ Some p
    → Some p.0 ≡ option_and_then (λ row. under_of row.origin) q
under_parent q p e = grind (arith, nat_tests)

pub under_creator : (q : Option Row) → option_and_then (λ row. parent_by_origin row.origin) q ≡ None
    → option_map (λ (x : ActionId). x.0) (option_and_then (λ row. creator_by_origin row.origin) q)
    ≡ option_and_then (λ row. under_of row.origin) q
under_creator q e = grind (arith, nat_tests)

-- where siblings may be ended, an action began this one
pub others_under : (t : Tree) (a : ℕ) → abort_others_refusal t a ≡ None
    → (u : ℕ) × (under_at t.folded t.rows a ≡ Some u)
others_under t a free = grind (arith, nat_tests)

-- the action that was found is the one
pub named_under : (q : Option ActionId) (u : Option ℕ) (x : ActionId) → option_map (λ (x : ActionId). x.0) q ≡ u
    → q ≡ Some x → u ≡ Some x.0
named_under q u x e is = sym e ∙ ap (option_map (λ (x : ActionId). x.0)) is

pub none_under : (q : Option ActionId) (u : Option ℕ) (v : ℕ) → option_map (λ (x : ActionId). x.0) q ≡ u → q ≡ None
    → u ≡ Some v → ⊥
none_under q u v e is some = grind (arith, nat_tests)
