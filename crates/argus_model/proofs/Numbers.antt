-- Members of lists of numbers, and rising lists.
use Rattle.std.proofs.Common.{Bool, List, [], arith, false, inr, refl, sym, true, ℕ, ◌++◌, ◌<◌, ◌∙◌, ◌∷◌, ◌≡◌, ◌⊎◌}
use Rattle.std.proofs.{lemmas.Bool.Decides.nat_tests, lemmas.Bool.{cases_Bool, cases_eq, false≢true, or_parts}}
use Rattle.std.specs.{List.{AllByRecursion, list_all, list_any}, Prelude.{filter, nat_lt, ◌==◌, ◌||◌}}
use Rattle.std.specs.List.Sorted.{IsStrictlyIncreasing}
use Rattle.argus_model.specs.Numbers.{contains, insert}

-- each number is less than those after it
abbrev pub IsRising : List ℕ → Type 0
IsRising [] = Unit {0}
IsRising (x ∷ xs) = ((y : ℕ) → contains xs y ≡ true → x < y) × IsRising xs

-- a list has its first number
pub contains_first : (x : ℕ) (ys : List ℕ) → contains (x ∷ ys) x ≡ true
contains_first x ys = grind (arith, nat_tests)

-- joined lists have what the second has
pub joined : (xs ys : List ℕ) (x : ℕ) → contains ys x ≡ true → contains (xs ++ ys) x ≡ true
joined [] ys x h = h
joined (y ∷ xs) ys x h = let ih = joined xs ys x h in grind arith

-- joined lists have what the first has
pub joined_left : (xs ys : List ℕ) (x : ℕ) → contains xs x ≡ true → contains (xs ++ ys) x ≡ true
joined_left [] ys x h = absurd (false≢true h)
joined_left (y ∷ xs) ys x h = grind (arith, nat_tests, joined_left xs ys x)

-- where one of a list passes the test, here is one
pub any_found : (t : ℕ → Bool) (zs : List ℕ) → list_any t zs ≡ true → (z : ℕ) × (contains zs z ≡ true) × (t z ≡ true)
any_found t [] m = absurd (false≢true m)
any_found t (z ∷ zs) m = grind (arith, nat_tests, contains_first z zs, any_found t zs)

-- one of a list that passes the test is enough
pub any_from : (t : ℕ → Bool) (zs : List ℕ) (z : ℕ) → contains zs z ≡ true → t z ≡ true → list_any t zs ≡ true
any_from t [] z m e = absurd (false≢true m)
any_from t (y ∷ zs) z m e = grind (arith, nat_tests, any_from t zs z)

-- tests that agree on each of a list agree on whether one passes
pub any_agree : (t u : ℕ → Bool) (zs : List ℕ) → ((z : ℕ) → contains zs z ≡ true → t z ≡ u z)
    → list_any t zs ≡ list_any u zs
any_agree t u [] same = refl
any_agree t u (z ∷ zs) same = grind (arith, nat_tests, contains_first z zs, any_agree t u zs)

-- what is on the filtered list passes the test and is on the list
pub contains_filter : (p : ℕ → Bool) (xs : List ℕ) (x : ℕ) → contains (filter p xs) x ≡ true
    → (p x ≡ true) × (contains xs x ≡ true)
contains_filter p [] x m = absurd (false≢true m)
contains_filter p (y ∷ xs) x m = grind (arith, nat_tests, contains_filter p xs x, cases_Bool (p y))

-- what passes the test and is on the list is on the filtered list
pub filter_contains : (p : ℕ → Bool) (xs : List ℕ) (x : ℕ) → p x ≡ true → contains xs x ≡ true
    → contains (filter p xs) x ≡ true
filter_contains p [] x e m = m
filter_contains p (y ∷ xs) x e m = grind (arith, nat_tests, filter_contains p xs x e, cases_Bool (p y))

-- what joined lists have is on the first or on the second
pub joined_cases : (xs ys : List ℕ) (x : ℕ) → contains (xs ++ ys) x ≡ true
    → (contains xs x ≡ true) ⊎ (contains ys x ≡ true)
joined_cases [] ys x m = inr m
joined_cases (y ∷ xs) ys x m = grind (arith, nat_tests, joined_cases xs ys x)

-- where all of a list pass the test, each on it does
pub every_at : (t : ℕ → Bool) (xs : List ℕ) (x : ℕ) → list_all t xs ≡ true → contains xs x ≡ true → t x ≡ true
every_at t [] x e m = absurd (false≢true m)
every_at t (y ∷ xs) x e m = grind (arith, nat_tests, every_at t xs x)

-- where each on a list passes the test, all of it do
pub every_from : (t : ℕ → Bool) (xs : List ℕ) → ((x : ℕ) → contains xs x ≡ true → t x ≡ true) → list_all t xs ≡ true
every_from t [] each = refl
every_from t (y ∷ xs) each = grind (arith, nat_tests, every_from t xs)

-- after an insert the list has that number and what it had
pub contains_insert : (o : ℕ) (xs : List ℕ) (x : ℕ) → contains (insert o xs) x ≡ ((x == o) || contains xs x)
contains_insert o [] x = refl
contains_insert o (y ∷ xs) x = grind (arith, nat_tests, contains_insert o xs x, cases_Bool (nat_lt o y), cases_eq o y)

-- a rising list rises after an insert, too
pub insert-IsRising : (o : ℕ) (xs : List ℕ) → IsRising xs → IsRising (insert o xs)
insert-IsRising o [] r = (λ y m. absurd (false≢true m), tt)
insert-IsRising o (x ∷ xs) r =
    grind (arith, nat_tests, contains_insert o xs, insert-IsRising o xs r.1, cases_Bool (nat_lt o x), cases_eq o x)

-- rising lists with the same members are the same
pub rising_same : (xs ys : List ℕ) → IsRising xs → IsRising ys → ((x : ℕ) → contains xs x ≡ contains ys x) → xs ≡ ys
rising_same [] [] r s same = refl
rising_same [] (y ∷ ys) r s same = absurd (false≢true (same y ∙ contains_first y ys))
rising_same (x ∷ xs) [] r s same = absurd (false≢true (sym (same x) ∙ contains_first x xs))
rising_same (x ∷ xs) (y ∷ ys) r s same =
    grind (arith, nat_tests, contains_first y ys, contains_first x xs, cases_eq, rising_same xs ys r.1 s.1)

-- a rising list rises with a greater number at its end, too
pub rising-more : (xs : List ℕ) (n : ℕ) → IsRising xs → ((x : ℕ) → contains xs x ≡ true → x < n)
    → IsRising (xs ++ n ∷ [])
rising-more [] n r l = (λ y m. absurd (false≢true m), tt)
rising-more (x ∷ xs) n r l =
    grind (arith, nat_tests, contains_first x xs, joined_cases xs (n ∷ []), rising-more xs n r.1)

-- what is left of a rising list by a filter rises
pub rising_filter : (p : ℕ → Bool) (xs : List ℕ) → IsRising xs → IsRising (filter p xs)
rising_filter p [] r = tt
rising_filter p (x ∷ xs) r = grind (arith, nat_tests, rising_filter p xs r.1, contains_filter p xs, cases_Bool (p x))

-- a rising list is strictly increasing, in the library's words
pub increasing : (xs : List ℕ) → IsRising xs → IsStrictlyIncreasing xs
increasing (x ∷ y ∷ ys) r = grind (arith, nat_tests, contains_first y ys, increasing (y ∷ ys) r.1)
increasing _ r = λ k l. absurd (omega (arith, l))

-- a number that a list doesn't have differs from each on it
pub different : (x : ℕ) (xs : List ℕ) → contains xs x ≡ false → AllByRecursion (λ y. (x == y) ≡ false) xs
different x [] n = tt
different x (y ∷ ys) n = let q = or_parts (x == y) (contains ys x) n in (q.0, different x ys q.1)
