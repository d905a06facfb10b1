-- The holders of an object after one more event.
use Rattle.std.proofs.lemmas.Bool.Decides.{nat_tests}
use Rattle.std.proofs.{lemmas.Bool.cases_eq, Common.{Bool, List, arith, cond, false, sym, true, ℕ, ◌∙◌, ◌≡◌, ◌≢◌}}
use Rattle.std.specs.Prelude.{filter, not, ◌&&◌, ◌==◌, ◌||◌}
use Rattle.argus_model.specs.{Ancestors.{is_under, parent}, History.{History, ◌▹◌}, Holders.{holders, inherited}}
use Rattle.argus_model.specs.{Event.{Aborted, Accessed, Began, Committed, Origin}, Numbers.{contains, insert, without}}
use Rattle.argus_model.specs.HolderSteps.{holds}
use Rattle.argus_model.proofs.HolderSteps.{holds_commit_parent, used_by_found, holds_abort, holds_access, holds_begin}
use Rattle.argus_model.proofs.{HolderSteps.holds_commit_other, Live.contains_unfolded}
use Rattle.argus_model.proofs.Numbers.{rising_filter, rising_same, IsRising, contains_filter, contains_insert}
use Rattle.argus_model.proofs.{Numbers.{filter_contains, insert-IsRising}, Holders.{contains_holders, holders_rising}}
use Rattle.argus_model.proofs.Standing.{Orderly, at_some, handed_cases, parent_is, parents_are_older}

-- a filtered list has what is on the list and passes the test
pub contains_filtered : (p : ℕ → Bool) (xs : List ℕ) (x : ℕ) → contains (filter p xs) x ≡ (contains xs x && p x)
contains_filtered p xs x = grind (arith, nat_tests, contains_filter, filter_contains)

-- the list without s has all that the list has but s
pub contains_without : (s : ℕ) (xs : List ℕ) (x : ℕ) → contains (without s xs) x ≡ (contains xs x && not (x == s))
contains_without s xs x = contains_filtered (λ y. not (y == s)) xs x

-- the three forms of what is left when s has handed its hold to p
inherited_by : (P : List ℕ → Type 0) (s p : ℕ) (xs : List ℕ)
    → (contains xs s ≡ true → p ≡ 0 → P (without s xs)) → (contains xs s ≡ true → p ≢ 0 → P (insert p (without s xs)))
    → (contains xs s ≡ false → P xs)
    → P (inherited s p xs)
inherited_by P s p xs top sub none = grind (arith, nat_tests, cases_eq p 0)

-- inherited holders are listed in increasing number
pub inherited-IsRising : (s p : ℕ) (xs : List ℕ) → IsRising xs → IsRising (inherited s p xs)
inherited-IsRising s p xs r = grind (arith, nat_tests, inherited_by, rising_filter, insert-IsRising)

-- the base inherits no place among holders
pub inherited_zero : (s p : ℕ) (xs : List ℕ) → contains xs 0 ≡ false → contains (inherited s p xs) 0 ≡ false
inherited_zero s p xs n = grind (arith, nat_tests, inherited_by, contains_without, contains_insert)

-- who has handed up what it holds is no holder
pub inherited_own : (s p : ℕ) (xs : List ℕ) → p ≢ s → contains (inherited s p xs) s ≡ false
inherited_own s p xs n = grind (arith, nat_tests, inherited_by, contains_without, contains_insert)

-- the parent is a holder where it or its child was one
pub inherited_parent : (s p : ℕ) (xs : List ℕ) → p ≢ s → p ≢ 0
    → contains (inherited s p xs) p ≡ (contains xs s || contains xs p)
inherited_parent s p xs n p0 = grind (arith, nat_tests, inherited_by, contains_insert)

-- all others are holders where they were
pub inherited_other : (s p : ℕ) (xs : List ℕ) (x : ℕ) → x ≢ s → x ≢ p → contains (inherited s p xs) x ≡ contains xs x
inherited_other s p xs x xs' xp = grind (arith, nat_tests, inherited_by, contains_without, contains_insert)

module _ {V : Type 0} (kind : V → Bool) where
  -- the base is no holder
  pub no_base_holder : (h : History V) (o : ℕ) → contains (holders kind h o) 0 ≡ false
  no_base_holder h o = grind (arith, nat_tests, contains_unfolded, contains_filter)

  -- a rising list of the same members is the list of holders
  holders_listed : (g : History V) → Orderly g → (o : ℕ) (xs : List ℕ) → IsRising xs → contains xs 0 ≡ false
      → ((x : ℕ) → x ≢ 0 → holds kind g o false x ≡ contains xs x) → holders kind g o ≡ xs
  holders_listed g w o xs r n same =
      grind (arith, nat_tests, rising_same, holders_rising, no_base_holder, contains_holders, cases_eq)

  -- a begin leaves the holders of each object
  pub holders_after_begin : (h : History V) (from : Origin) → Orderly (Began from ▹ h) → (o : ℕ)
      → holders kind (Began from ▹ h) o ≡ holders kind h o
  holders_after_begin h from w o =
      holders_listed (Began from ▹ h) w o (holders kind h o) (holders_rising kind h o) (no_base_holder h o)
      (λ x n. holds_begin kind h from o false x w.1 ∙ sym (contains_holders kind h w.1 o x n))

  -- an access of this kind adds its action to the holders of its object, and to no others
  pub holders_after_access : (h : History V) (a o' : ℕ) (v : V) → Orderly (Accessed a o' v ▹ h) → (o : ℕ)
      → holders kind (Accessed a o' v ▹ h) o ≡ cond (o' == o && kind v) (insert a (holders kind h o)) (holders kind h o)
  holders_after_access h a o' v w o =
      let g = Accessed a o' v ▹ h in let old = holders kind h o in let rising = holders_rising kind h o in
      let same = holders_listed g w o old rising in
      let more = holders_listed g w o (insert a old) (insert-IsRising a old rising) in
      let now = holds_access kind h a o' v o false in let listed = contains_holders kind h w.1 o in
      grind (arith, nat_tests, same, more, now, contains_insert a old, no_base_holder h o, listed)

  -- an abort takes from the holders all who stand under those aborted
  pub holders_after_abort : (h : History V) (z : List ℕ) → Orderly (Aborted z ▹ h) → (o : ℕ)
      → holders kind (Aborted z ▹ h) o ≡ filter (λ x. not (is_under h z x)) (holders kind h o)
  holders_after_abort h z w o =
      let same = holders_listed (Aborted z ▹ h) w o in let rising = holders_rising kind h o in
      let now = holds_abort kind h z o false in let old = contains_holders kind h w.1 o in
      grind (arith, nat_tests, same, rising_filter, rising, contains_filtered, no_base_holder h o, now, old)

  -- who commits holds nothing any more
  holds_commit_own : (h : History V) (s o : ℕ) → parent h s ≢ s → holds kind (Committed s ▹ h) o false s ≡ false
  holds_commit_own h s o ne = grind (arith, nat_tests, used_by_found, handed_cases, at_some)

  -- a commit hands the action's place among the holders to its parent
  pub holders_after_commit : (h : History V) (s : ℕ) → Orderly (Committed s ▹ h) → (o : ℕ)
      → holders kind (Committed s ▹ h) o ≡ inherited s (parent h s) (holders kind h o)
  holders_after_commit h s w o =
      grind (
        arith,
        nat_tests,
        holders_listed (Committed s ▹ h) w o,
        parent_is h,
        parents_are_older h w.1,
        inherited-IsRising,
        holders_rising kind h o,
        inherited_zero,
        no_base_holder h o,
        holds_commit_own h s o,
        inherited_own,
        holds_commit_parent kind h s o false,
        contains_holders kind h w.1 o,
        inherited_parent,
        holds_commit_other kind h s o false,
        inherited_other,
      )
