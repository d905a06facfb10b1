-- How many numbers below a bound pass a test, and so how many live actions were begun under one.
use Rattle.std.proofs.Common.{◌≡◌, ℕ, zero, suc, ◌+◌, ◌<◌, Bool, true, false, eqb, not, ◌&&◌, List, [], ◌∷◌, length}
use Rattle.std.{proofs.{Common.{refl, sym, ◌∙◌, ap, arith}, lemmas.Bool.Decides.nat_tests}, specs.Option.option_map_or}
use Rattle.argus_actions.specs.{Row.{Row, is_begun_under, is_live}, Rows.{is_live_at, is_child_of, live_count}}
use Rattle.argus_actions.proofs.{RowsLemmas.numbered_newest, Marks.one}

-- how many numbers below the bound pass the test
abbrev pub count : (ℕ → Bool) → ℕ → ℕ
count test zero = 0
count test (suc k) = one (test k) + count test k

pub count_same : (p q : ℕ → Bool) (bound : ℕ) → ((x : ℕ) → x < bound → p x ≡ q x) → count p bound ≡ count q bound
count_same p q zero same = refl
count_same p q (suc k) same = grind (arith, nat_tests, count_same p q k)

pub count_none : (p : ℕ → Bool) (bound : ℕ) → ((x : ℕ) → x < bound → p x ≡ false) → count p bound ≡ 0
count_none p zero none = refl
count_none p (suc k) none = grind (arith, nat_tests, count_none p k)

pub count_some : (p : ℕ → Bool) (bound k : ℕ) → k < bound → p k ≡ true → 0 < count p bound
count_some p zero k low is = absurd (omega arith)
count_some p (suc b) k low is = grind (arith, nat_tests, count_some p b k)

-- where none passes between one and the bound
pub count_down : (p : ℕ → Bool) (bound c : ℕ) → c < bound → ((x : ℕ) → c < x → x < bound → p x ≡ false)
    → count p bound ≡ one (p c) + count p c
count_down p zero c low none = absurd (omega arith)
count_down p (suc b) c low none = grind (arith, nat_tests, one, count_down p b c)

-- all but one that passes
pub count_but : (p : ℕ → Bool) (a bound : ℕ) → a < bound → p a ≡ true
    → count p bound ≡ 1 + count (λ x. p x && not (eqb x a)) bound
count_but p a zero low is = absurd (omega arith)
count_but p a (suc b) low is = grind (arith, nat_tests, count_same, count_but p a b)

-- x is live, and was begun under this action
abbrev pub is_live_child_of : ℕ → List Row → ℕ → ℕ → Bool
is_live_child_of n rows u x = is_child_of n rows u x && is_live_at n rows x

pub live_count_is : (n : ℕ) (rows : List Row) (u : ℕ)
    → live_count rows u ≡ count (is_live_child_of n rows u) (n + length rows)
live_count_is n [] u = sym (count_none (is_live_child_of n [] u) (n + 0) (λ x low. refl))
live_count_is n (row ∷ older) u =
    let more : n + suc (length older) ≡ suc (n + length older) = omega arith in
    let here : is_live_child_of n (row ∷ older) u (n + length older) ≡ (is_begun_under u row.origin
    && is_live row.status)
    = ap (λ o. option_map_or (λ (w : Row). is_begun_under u w.origin) o false
    && option_map_or (λ (w : Row). is_live w.status) o false)
    (numbered_newest n row older (n + length older) refl) in
    let others : count (is_live_child_of n (row ∷ older) u) (n + length older) ≡ live_count older u
    = count_same (is_live_child_of n (row ∷ older) u) (is_live_child_of n older u) (n + length older)
    (λ x low. grind (arith, nat_tests))
    ∙ sym (live_count_is n older u) in
    grind (arith, nat_tests, one)
