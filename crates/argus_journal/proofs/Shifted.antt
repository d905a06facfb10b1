-- Lists of actions in the program's numbers and in the history's.
use Rattle.std.proofs.Common.{Bool, List, None, Some, [], ap, arith, cond, false, map, refl, ℕ, ⊎_elim, ◌++◌, ◌+◌, ◌-◌}
use Rattle.std.proofs.{Common.{◌<◌, ◌∙◌, ◌∷◌, ◌≡◌, ◌≢◌}, lemmas.Bool.{Decides.nat_tests, cases_eq, eq-eqb, ne_eqb}}
use Rattle.std.specs.{List.list_any, Prelude.{filter, is_none, nat_lt, not, ◌&&◌, ◌==◌, ◌||◌}}
use Rattle.argus_model.specs.{Holders.inherited, Numbers.{contains, insert, without}}
use Rattle.argus_model.proofs.{NextHolders.contains_without, Numbers.joined_cases}
use Rattle.argus_journal.specs.{Numbering.{all_in_history, all_in_program, unless_base}, JournalFacts.holders_inherited}

pub one_more : (x y : ℕ) → ((x + 1) == (y + 1)) ≡ (x == y)
one_more x y = grind (arith, nat_tests)

pub not_base : (x : ℕ) → ((x + 1) == 0) ≡ false
not_base x = grind (arith, nat_tests)

pub zero_not_one_more : (x : ℕ) → (0 == (x + 1)) ≡ false
zero_not_one_more x = grind (arith, nat_tests)

pub before : (a : ℕ) → (a + 1) - 1 ≡ a
before a = omega arith

pub after : (x : ℕ) → x ≢ 0 → (x - 1) + 1 ≡ x
after x n = omega (arith, n)

pub or_none : (b : Bool) → (b || false) ≡ b
or_none b = grind (arith, nat_tests)

-- the next action's number, in the program's
pub is_next : (n x : ℕ) → 0 < n → ((x + 1) == n) ≡ (x == (n - 1))
is_next n x p = grind (arith, nat_tests)

-- the base is none of these
abbrev pub NoBase : List ℕ → Type 0
NoBase xs = contains xs 0 ≡ false

no_base_first : (y : ℕ) (ys : List ℕ) → NoBase (y ∷ ys) → (y ≢ 0) × NoBase ys
no_base_first y ys n = grind (arith, nat_tests)

pub no_base-append : (xs ys : List ℕ) → NoBase xs → NoBase ys → NoBase (xs ++ ys)
no_base-append xs ys m n = grind (arith, nat_tests, joined_cases)

equal_in_program : (a y : ℕ) → y ≢ 0 → ((a + 1) == y) ≡ (a == (y - 1))
equal_in_program a y n = grind (arith, nat_tests)

less_in_program : (a y : ℕ) → y ≢ 0 → nat_lt (a + 1) y ≡ nat_lt a (y - 1)
less_in_program a y n = grind (arith, nat_tests)

pub contains_in_program : (xs : List ℕ) (a : ℕ) → NoBase xs → contains (all_in_program xs) a ≡ contains xs (a + 1)
contains_in_program [] a n = refl
contains_in_program (y ∷ ys) a n = grind (arith, nat_tests, no_base_first, equal_in_program, contains_in_program ys a)

-- back and forth
pub all_back : (xs : List ℕ) → NoBase xs → all_in_history (all_in_program xs) ≡ xs
all_back [] n = refl
all_back (y ∷ ys) n = grind (arith, nat_tests, no_base_first, after, all_back ys)

pub map_cond : (b : Bool) (xs ys : List ℕ)
    → all_in_program (cond b xs ys) ≡ cond b (all_in_program xs) (all_in_program ys)
map_cond b xs ys = grind (arith, nat_tests)

pub insert_in_program : (a : ℕ) (xs : List ℕ) → NoBase xs
    → all_in_program (insert (a + 1) xs) ≡ insert a (all_in_program xs)
insert_in_program a [] n = ap (λ k. k ∷ []) (before a)
insert_in_program a (y ∷ ys) n =
    grind (arith, nat_tests, no_base_first, map_cond, equal_in_program, less_in_program, before, insert_in_program a ys)

pub filter_in_program : (p q : ℕ → Bool) (xs : List ℕ) → ((x : ℕ) → x ≢ 0 → q x ≡ p (x - 1)) → NoBase xs
    → all_in_program (filter q xs) ≡ filter p (all_in_program xs)
filter_in_program p q [] same n = refl
filter_in_program p q (y ∷ ys) same n = grind (arith, nat_tests, no_base_first, map_cond, filter_in_program p q ys same)

without_in_program : (a : ℕ) (xs : List ℕ) → NoBase xs
    → all_in_program (without (a + 1) xs) ≡ without a (all_in_program xs)
without_in_program a xs n = grind (arith, nat_tests, filter_in_program, after)

no_base-without : (a : ℕ) (xs : List ℕ) → NoBase xs → NoBase (without a xs)
no_base-without a xs n = contains_without a xs 0 ∙ ap (λ b. b && not (0 == a)) n

without_absent : (a : ℕ) (xs : List ℕ) → contains xs a ≡ false → without a xs ≡ xs
without_absent a [] n = refl
without_absent a (y ∷ ys) n = grind (arith, nat_tests, without_absent a ys)

pub is_none_base : (p : ℕ) → is_none (unless_base p) ≡ (p == 0)
is_none_base p = grind (arith, nat_tests)

pub unless_base_none : (p : ℕ) → p ≡ 0 → unless_base p ≡ None
unless_base_none p e = ap (λ b. cond b None (Some (p - 1))) (eq-eqb p 0 e)

pub unless_base_some : (p : ℕ) → p ≢ 0 → unless_base p ≡ Some (p - 1)
unless_base_some p n = ap (λ b. cond b None (Some (p - 1))) (ne_eqb p 0 n)

pub handed_in_program : (a p : ℕ) (xs : List ℕ) → NoBase xs
    → all_in_program (inherited (a + 1) p xs) ≡ holders_inherited a (unless_base p) (all_in_program xs)
handed_in_program a p xs n =
    let ys = without (a + 1) xs in
    let out = all_in_program xs in
    let there = contains_in_program xs a n in
    map_cond (contains xs (a + 1)) (cond (p == 0) ys (insert p ys)) xs
    ∙ ⊎_elim
    (λ e. grind (arith, nat_tests, without_in_program, without_absent, unless_base_none))
    (λ e. grind (arith, nat_tests, after, insert_in_program, no_base-without, without_in_program, unless_base_some))
    (cases_eq p 0)

pub any-map : (t : ℕ → Bool) (f : ℕ → ℕ) (xs : List ℕ) → list_any t (map f xs) ≡ list_any (λ x. t (f x)) xs
any-map t f [] = refl
any-map t f (x ∷ xs) = ap (λ b. t (f x) || b) (any-map t f xs)
