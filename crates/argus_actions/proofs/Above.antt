-- Ancestors in any list of rows.
use Rattle.std.proofs.Common.{◌≡◌, ◌≢◌, ℕ, ◌+◌, ◌<◌, ◌≤◌, Bool, true, false, List, [], ◌∷◌, length, Some, None, arith}
use Rattle.std.{proofs.{Common.◌⊎◌, lemmas.Bool.{Decides.nat_tests, false≢true}}, specs.Option.option_and_then}
use Rattle.argus_actions.specs.declared.{action_id.ActionId.ActionId, origin.Origin.{Origin, TheVariants.Sub}}
use Rattle.argus_actions.specs.{Row.{Row, at_parent}, Rows.{numbered, is_above}, Tree.parent_by_origin}
use Rattle.argus_actions.proofs.Parents.{origin_of}

-- the parent by which a test of an origin is true
through : (o : Origin) (f : ℕ → Bool) → at_parent false o f ≡ true → (p : ℕ) × ((o ≡ Sub p) × (f p ≡ true))
through o f e = grind (arith)

-- above the newest row: it is that one, or above its parent
pub ways : (n : ℕ) (r : Row) (older : List Row) (x y : ℕ) → y ≡ n + length older → is_above n (r ∷ older) x y ≡ true
    → (x ≡ y) ⊎ ((p : ℕ) × ((r.origin ≡ Sub p) × (is_above n older x p ≡ true)))
ways n r older x y newest up = grind (arith, nat_tests, through)

above_parent : (n : ℕ) (r : Row) (older : List Row) (x y p : ℕ) → y ≡ n + length older → r.origin ≡ Sub p
    → is_above n older x p ≡ true → is_above n (r ∷ older) x y ≡ true
above_parent n r older x y p newest o up = grind (arith, nat_tests)

-- an ancestor is no newer, and who has one was begun
pub above_le : (n : ℕ) (rows : List Row) (x y : ℕ) → is_above n rows x y ≡ true → (x ≤ y) × (y < n + length rows)
above_le n [] x y up = absurd (false≢true up)
above_le n (r ∷ older) x y up = grind (arith, nat_tests, ways, above_le n older x)

-- what holds of the older rows holds with one row more
pub lift : (n : ℕ) (r : Row) (older : List Row) (x y : ℕ) → is_above n older x y ≡ true
    → is_above n (r ∷ older) x y ≡ true
lift n r older x y up = grind (arith, nat_tests, above_le)

-- an action with no parent has no ancestor but itself
pub above_top : (n : ℕ) (rows : List Row) (x y : ℕ) → option_and_then (λ (row : Row). parent_by_origin row.origin)
    (numbered n rows y) ≡ None → is_above n rows x y ≡ true → x ≡ y
above_top n [] x y top up = absurd (false≢true up)
above_top n (r ∷ older) x y top up = grind (arith, nat_tests, ways, above_top n older x y)

-- an ancestor is its own ancestor
pub above_self : (n : ℕ) (rows : List Row) (x y : ℕ) → is_above n rows x y ≡ true → is_above n rows x x ≡ true
above_self n [] x y up = absurd (false≢true up)
above_self n (r ∷ older) x y up = grind (arith, nat_tests, ways, lift, above_self n older x)

-- an ancestor of an ancestor is an ancestor
pub above_trans : (n : ℕ) (rows : List Row) (x y z : ℕ) → is_above n rows x y ≡ true → is_above n rows y z ≡ true
    → is_above n rows x z ≡ true
above_trans n [] x y z up up' = absurd (false≢true up')
above_trans n (r ∷ older) x y z up up' =
    grind (arith, nat_tests, ways, above_le, above_parent, lift, above_trans n older x y)

-- of two ancestors the older one is an ancestor of the other
pub above_linear : (n : ℕ) (rows : List Row) (x y z : ℕ) → is_above n rows x z ≡ true → is_above n rows y z ≡ true
    → x ≤ y → is_above n rows x y ≡ true
above_linear n [] x y z up up' le = absurd (false≢true up)
above_linear n (r ∷ older) x y z up up' le = grind (arith, nat_tests, ways, above_le, lift, above_linear n older x y)

-- another ancestor of a subaction is an ancestor of its parent
pub above_up : (n : ℕ) (rows : List Row) (x s : ℕ) (parent : ActionId)
    → option_and_then (λ (row : Row). parent_by_origin row.origin) (numbered n rows s) ≡ Some parent
    → is_above n rows x s ≡ true → x ≢ s → is_above n rows x parent.0 ≡ true
above_up n [] x s parent is up ne = absurd (false≢true up)
above_up n (r ∷ older) x s parent is up other =
    grind (arith, nat_tests, origin_of, ways, lift, above_up n older x s parent)
