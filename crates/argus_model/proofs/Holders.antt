-- The lists of holders and the two lock rules are those of the owners by steps.
use Rattle.std.proofs.{Common.{Bool, arith, false, refl, true, ℕ, ◌++◌, ◌<◌, ◌≡◌, ◌≢◌}, lemmas.Bool.Decides.nat_tests}
use Rattle.std.proofs.lemmas.Bool.{false≢true}
use Rattle.std.specs.{List.list_all, Prelude.◌||◌}
use Rattle.argus_model.specs.{Ancestors.is_ancestor, History.{History, Opened, begun_actions, folded, next_action, ◌▹◌}}
use Rattle.argus_model.specs.{Event.{Aborted, Accessed, Began, Committed}, Numbers.contains, Status.is_begun}
use Rattle.argus_model.specs.{HolderSteps.{has_used, holds, may_by_steps, used_by}, Meaning.{Meaning, reads}}
use Rattle.argus_model.specs.Holders.{has_access, holders, is_holder, may_read, may_write, readers, writers}
use Rattle.argus_model.proofs.Exclusion.{has_used_begun, has_used_cases}
use Rattle.argus_model.proofs.{HolderSteps.{may_asks, may_if, used_by_agree, used_by_found}, Numbers.joined_cases}
use Rattle.argus_model.proofs.Numbers.{rising_filter, IsRising, contains_filter, every_at, every_from, filter_contains}
use Rattle.argus_model.proofs.Live.{begun_contains, begun_rising, contains_unfolded, is_begun_from}
use Rattle.argus_model.proofs.Owner.{base_above, is_held_by_is, owner_is, owner_unfolded}
use Rattle.argus_model.proofs.Standing.{Orderly, at_some, owner_begun, parents_are_older, stands_unfolded}

module _ {V : Type 0} (kind : V → Bool) where
  -- who has an access of this kind has a number past the folded ones
  pub has_used_unfolded : (h : History V) → Orderly h → (a o : ℕ) → has_used kind h a o false ≡ true → folded h < a
  has_used_unfolded (Opened n) w a o u = absurd (false≢true u)
  has_used_unfolded (Accessed d o' v ▹ h) w a o u =
      grind (arith, nat_tests, stands_unfolded, has_used_unfolded h w.1 a o, has_used_cases)
  has_used_unfolded (_ ▹ h) w a o u = has_used_unfolded h w.1 a o u

  -- who has an access of this kind began since the opening
  pub has_used_begun_action : (h : History V) → Orderly h → (a o : ℕ) → has_used kind h a o false ≡ true
      → is_begun h a ≡ true
  has_used_begun_action h w a o u =
      is_begun_from h a (has_used_unfolded h w a o u) (has_used_begun kind h w a o false u)

  has_access_is : (t : ℕ → Bool) (o : ℕ) (k : History V) → has_access kind t o k ≡ used_by kind t o false k
  has_access_is t o (Opened n) = refl
  has_access_is t o (Accessed a o' v ▹ k) = grind (arith, nat_tests, has_access_is t o k)
  has_access_is t o (_ ▹ k) = has_access_is t o k

  -- who is a holder is one by steps, and the other way round
  pub is_holder_is : (h : History V) → Orderly h → (o x : ℕ) → x ≢ 0 → is_holder kind h o x ≡ holds kind h o false x
  is_holder_is h w o x n =
      grind (arith, nat_tests, has_access_is, used_by_agree, owner_is, has_used_begun_action, is_held_by_is)

  -- a holder's number is past the folded ones and before the next
  pub holds_known : (h : History V) → Orderly h → (o x : ℕ) → x ≢ 0 → holds kind h o false x ≡ true
      → (folded h < x) × (x < next_action h)
  holds_known h w o x n m =
      grind (arith, nat_tests, used_by_found, at_some, owner_unfolded, owner_begun, parents_are_older)

  -- the list of holders has each holder by steps, and no other
  pub contains_holders : (h : History V) → Orderly h → (o x : ℕ) → x ≢ 0
      → contains (holders kind h o) x ≡ holds kind h o false x
  contains_holders h w o x n =
      grind (arith, nat_tests, is_holder_is, contains_filter, holds_known, filter_contains, begun_contains)

module _ {V C A : Type 0} (meaning : Meaning V C A) where
  -- an access of any kind is a read access or a write access
  pub used_by_kinds : (t : ℕ → Bool) (o : ℕ) (k : History V)
      → used_by meaning.writes t o true k ≡ (used_by (reads meaning) t o false k || used_by meaning.writes t o false k)
  used_by_kinds t o (Opened n) = refl
  used_by_kinds t o (Accessed a o' v ▹ k) = grind (arith, nat_tests, used_by_kinds t o k)
  used_by_kinds t o (_ ▹ k) = used_by_kinds t o k

  -- where all listed holders are ancestors of a, each holder by steps is one
  pub every_holder : (kind : V → Bool) (h : History V) → Orderly h → (a o : ℕ)
      → list_all (λ x. is_ancestor h x a) (holders kind h o) ≡ true → (x : ℕ) → holds kind h o false x ≡ true
      → is_ancestor h x a ≡ true
  every_holder kind h w a o e x m = grind (arith, nat_tests, base_above h a, every_at, contains_holders kind h w o)

  -- where each holder by steps is an ancestor of a, all listed holders are
  pub all_holders : (kind : V → Bool) (h : History V) → Orderly h → (a o : ℕ)
      → ((x : ℕ) → holds kind h o false x ≡ true → is_ancestor h x a ≡ true)
      → list_all (λ x. is_ancestor h x a) (holders kind h o) ≡ true
  all_holders kind h w a o each = grind (arith, nat_tests, every_from, contains_filter, contains_unfolded, is_holder_is)

  -- the lock for reading is free where it is by steps
  pub may_read_is : (h : History V) → Orderly h → (a o : ℕ)
      → may_read meaning h a o ≡ may_by_steps meaning.writes h a o false h
  may_read_is h w a o = grind (arith, nat_tests, may_if, every_holder, all_holders, may_asks)

  -- the lock for writing is free where it is by steps
  pub may_write_is : (h : History V) → Orderly h → (a o : ℕ)
      → may_write meaning h a o ≡ may_by_steps meaning.writes h a o true h
  may_write_is h w a o = grind (arith, nat_tests, may_if, every_holder, used_by_kinds, all_holders, may_asks)

-- who is listed as a holder is one by steps
pub listed : {V : Type 0} (kind : V → Bool) (h : History V) → Orderly h → (o x : ℕ)
    → contains (holders kind h o) x ≡ true → holds kind h o false x ≡ true
listed kind h w o x m = grind (arith, nat_tests, contains_filter, contains_unfolded, is_holder_is)

-- who is listed as a reader or a writer holds the object by an access of some kind
pub same_kinds : {V C A : Type 0} (meaning : Meaning V C A) (h : History V) → Orderly h → (o x : ℕ)
    → contains (readers meaning h o ++ writers meaning h o) x ≡ true → holds meaning.writes h o true x ≡ true
same_kinds meaning h w o x m = grind (arith, nat_tests, used_by_kinds, listed, joined_cases)

-- holders are listed in increasing number
pub holders_rising : {V : Type 0} (kind : V → Bool) (h : History V) (o : ℕ) → IsRising (holders kind h o)
holders_rising kind h o = rising_filter (is_holder kind h o) (begun_actions h) (begun_rising h)
