-- The walk down over the subactions of an action, the newest first.
use Rattle.std.proofs.Common.{◌≡◌, ◌≢◌, ℕ, ◌+◌, ◌<◌, ◌≤◌, Bool, true, false, cond, eqb, ltb, leb, ◌||◌, ◌&&◌, List, []}
use Rattle.std.proofs.{Common.{◌∷◌, length, Option, Some, None, refl, ◌∙◌, arith}, lemmas.Bool.Decides.nat_tests}
use Rattle.std.proofs.lemmas.Bool.{ne_eqb}
use Rattle.argus_actions.specs.{declared.{node.TheConstants.NONE, origin.Origin.{Origin, TheVariants.Sub}}, Row.Row}
use Rattle.argus_actions.specs.{Row.at_parent, Rows.{numbered, is_above, newest_below}, Nodes.IsBegunBetween}
use Rattle.argus_actions.{specs.Nodes.{AreLinked, link_to}, proofs.RowsLemmas.{at_parent_between, is_above_newer}}

-- x is below a, by a subaction of a whose number is at least the bound
abbrev pub is_via : ℕ → List Row → ℕ → ℕ → ℕ → Bool
is_via n [] a bound x = false
is_via n (row ∷ older) a bound x =
    cond (eqb x (n + length older)) (at_parent false row.origin
    (λ p. cond (eqb p a) (leb bound x) (is_via n older a bound p))) (is_via n older a bound x)

-- a itself, and what is below it by such a subaction
abbrev pub is_handled : ℕ → List Row → ℕ → ℕ → ℕ → Bool
is_handled n rows a bound x = eqb x a || is_via n rows a bound x

none_is_some : (a : ℕ) → None ≡ Some a → ⊥
none_is_some a e = cc

module _ (n : ℕ) (row : Row) (older : List Row) (a bound x : ℕ) where
  via_older : x ≢ n + length older → is_via n (row ∷ older) a bound x ≡ is_via n older a bound x
  via_older ne = rw (ne_eqb x (n + length older) ne)

-- a number without a row is below no action
pub via_unbegun : (n : ℕ) (rows : List Row) (a bound x : ℕ) → n + length rows ≤ x → is_via n rows a bound x ≡ false
via_unbegun n [] a bound x past = refl
via_unbegun n (row ∷ older) a bound x past =
    via_older n row older a bound x (λ e. omega arith) ∙ via_unbegun n older a bound x (omega arith)

pub via_low : (n : ℕ) (rows : List Row) (a bound x : ℕ) → x < n → is_via n rows a bound x ≡ false
via_low n [] a bound x low = refl
via_low n (row ∷ older) a bound x low =
    via_older n row older a bound x (λ e. omega arith) ∙ via_low n older a bound x low

-- no subaction has a number past the newest
pub via_past : (n : ℕ) (rows : List Row) (a bound x : ℕ) → n + length rows ≤ bound → x < bound
    → is_via n rows a bound x ≡ false
via_past n [] a bound x past below = refl
via_past n (row ∷ older) a bound x past below = grind (arith, nat_tests, via_unbegun, via_past n older a bound)

-- what is below a is below it by some subaction
pub above_via : (n : ℕ) (rows : List Row) (a x : ℕ) → AreLinked n rows → n ≤ x → x < n + length rows
    → is_handled n rows a 0 x ≡ is_above n rows a x
above_via n [] a x linked low high = absurd (omega arith)
above_via n (row ∷ older) a x linked low high = grind (arith, nat_tests, at_parent_between, above_via n older a)

-- what the newest subaction below the bound is
pub record IsNewestSub (n : ℕ) (rows : List Row) (a bound c : ℕ) : Type 0 where
  pub low : n ≤ c
  pub begun : c < n + length rows
  pub below : c < bound
  pub newer : a < c
  pub under : (row : Row) → numbered n rows c ≡ Some row → row.origin ≡ Sub a

pub sub_of : (o : Origin) (a : ℕ) → at_parent false o (λ p. eqb p a) ≡ true → o ≡ Sub a
sub_of o a e = grind (arith, nat_tests)

pub newest_sub_is : (n : ℕ) (rows : List Row) (a bound c : ℕ) → AreLinked n rows → newest_below n rows a bound ≡ Some c
    → IsNewestSub n rows a bound c
newest_sub_is n [] a bound c linked e = absurd (none_is_some c e)
newest_sub_is n (row ∷ older) a bound c linked e =
    grind (arith, nat_tests, sub_of, newest_sub_is n older a bound c linked.1)

more_by_origin : (n : ℕ) (older : List Row) (a bound c x : ℕ) (o : Origin) → IsBegunBetween n (n + length older) o
    → (ltb x bound && at_parent false o (λ p. eqb p a)) ≡ false → c ≤ x
    → ((p : ℕ) → n ≤ p → p < n + length older → (is_via n older a bound p || is_above n older c p)
    ≡ is_via n older a c p)
    → (at_parent false o (λ p. cond (eqb p a) (leb bound x) (is_via n older a bound p))
    || at_parent false o (is_above n older c)) ≡ at_parent false o
    (λ p. cond (eqb p a) (leb c x) (is_via n older a c p))
more_by_origin n older a bound c x o between not less up = grind (arith, nat_tests)

-- one subaction more is handled
pub via_more : (n : ℕ) (rows : List Row) (a bound c x : ℕ) → AreLinked n rows → newest_below n rows a bound ≡ Some c
    → n ≤ x → x < n + length rows
    → (is_via n rows a bound x || is_above n rows c x) ≡ is_via n rows a c x
via_more n [] a bound c x linked e low high = absurd (omega arith)
via_more n (row ∷ older) a bound c x linked e low high =
    let by_more = via_more n older a bound c in
    grind (arith, nat_tests, newest_sub_is, sub_of, via_past, is_above_newer, more_by_origin, by_more)

-- no subaction is left
pub via_all : (n : ℕ) (rows : List Row) (a bound x : ℕ) → AreLinked n rows → newest_below n rows a bound ≡ None → n ≤ x
    → x < n + length rows
    → is_via n rows a bound x ≡ is_via n rows a 0 x
via_all n [] a bound x linked e low high = refl
via_all n (row ∷ older) a bound x linked e low high = grind (arith, nat_tests, via_all n older a bound)

-- a bound on the steps that a walk from this link takes
abbrev pub steps_left : ℕ → ℕ
steps_left link = cond (eqb link NONE) 0 (link + 1)

-- a link that isn't none leads to an action
pub link_some : (o : Option ℕ) (c : ℕ) → c ≡ link_to o → c ≢ NONE → o ≡ Some c
link_some o c e ne = grind (arith)

-- a link that is none leads to no action, since no action has so great a number
pub link_none : (o : Option ℕ) (c : ℕ) → c ≡ link_to o → c ≡ NONE → ((a : ℕ) → o ≡ Some a → a < NONE) → o ≡ None
link_none o c e none small = grind (arith)

-- a walk gets shorter
pub fewer_steps : (o : Option ℕ) (c : ℕ) → c < NONE → ((a : ℕ) → o ≡ Some a → a < c)
    → steps_left (link_to o) < steps_left c
fewer_steps o c there below = grind (arith, nat_tests)
