-- The parent of an action is one of its ancestors.
use Rattle.std.proofs.Common.{◌≡◌, ℕ, ◌+◌, ◌<◌, ◌≤◌, Bool, true, false, eqb, ◌||◌, List, [], ◌∷◌, length, Some, subst}
use Rattle.std.proofs.{Common.{◌∙◌, ap, arith, inl, inr}, lemmas.Bool.{Decides.nat_tests, cases_lt}}
use Rattle.std.specs.Option.{option_and_then}
use Rattle.argus_actions.specs.declared.{action_id.ActionId.ActionId, origin.Origin.{Origin, TheVariants.Sub}}
use Rattle.argus_actions.specs.{Row.{Row, at_parent}, Rows.{numbered, is_above}, Tree.parent_by_origin}
use Rattle.argus_actions.{specs.Nodes.{IsBegunBetween, AreLinked}, proofs.RowsLemmas.{linked_at, begun_before}}
use Rattle.argus_actions.proofs.RowsLemmas.{is_above_step}

-- an action that was begun is its own ancestor
pub is_above_self : (n : ℕ) (rows : List Row) (x : ℕ) → n ≤ x → x < n + length rows → is_above n rows x x ≡ true
is_above_self n [] x low below = absurd (omega arith)
is_above_self n (r ∷ older) x low below = grind (arith, nat_tests, is_above_self n older x low)

or_true : (b : Bool) → (b || true) ≡ true
or_true b = grind (arith, nat_tests)

-- an action with a parent is a subaction of it
pub origin_of : (o : Origin) (parent : ActionId) → parent_by_origin o ≡ Some parent → o ≡ Sub parent.0
origin_of o parent e = grind (arith)

sub_above : (n : ℕ) (rows : List Row) (a p : ℕ) (row : Row) → AreLinked n rows → numbered n rows a ≡ Some row
    → row.origin ≡ Sub p → is_above n rows p a ≡ true
sub_above n rows a p row linked at is =
    let P : Origin → Type 0 = IsBegunBetween n a in
    let between : (n ≤ p) × (p < a) = subst P is (linked_at n rows a row linked at) in
    let begun : a < n + length rows = elim (cases_lt a (n + length rows))
    [ inl less ↦ less | inr past ↦ absurd (begun_before n rows a row at past) ] in
    is_above_step n rows p a row linked at
    ∙ ap (λ (o : Origin). eqb p a || at_parent false o (is_above n rows p)) is
    ∙ ap (λ b. eqb p a || b) (is_above_self n rows p between.0 (omega (arith, begun, between.1)))
    ∙ or_true (eqb p a)

pub parent_above : (n : ℕ) (rows : List Row) (a : ℕ) (parent : ActionId) → AreLinked n rows
    → option_and_then (λ row. parent_by_origin row.origin) (numbered n rows a) ≡ Some parent
    → is_above n rows parent.0 a ≡ true
parent_above n rows a parent linked e = grind (arith, nat_tests, sub_above, origin_of)
