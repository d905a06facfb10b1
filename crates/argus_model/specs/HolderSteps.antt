-- A second form of holders and lock rules, for proofs: by the owners of the accesses.
use Rattle.std.specs.Prelude.{Bool, None, Option, Some, false, if◌then◌else◌, true, ℕ, ◌&&◌, ◌==◌, ◌||◌}
use Rattle.argus_model.specs.{Ancestors.is_ancestor, Event.{Aborted, Accessed, Began, Committed}}
use Rattle.argus_model.specs.{History.{History, Opened, ◌▹◌}, OwnerSteps.{is_exactly, owner_by_steps}}

-- no owner, or an owner that passes the test
abbrev pub if_owned : (ℕ → Bool) → Option ℕ → Bool
if_owned test None = true
if_owned test (Some x) = test x

-- In each test here `all` says which accesses it is about: all of them, or only the write accesses.
module _ {V : Type 0} (writes : V → Bool) where
  -- each owner of an access to the object in k is an ancestor of a
  abbrev pub may_by_steps : History V → ℕ → ℕ → Bool → History V → Bool
  may_by_steps h a o all (Opened n) = true
  may_by_steps h a o all (Accessed b o' v ▹ k) =
      (if o' == o && (all || writes v) then if_owned (λ x. is_ancestor h x a)
      (owner_by_steps h b) else true)
      && may_by_steps h a o all k
  may_by_steps h a o all (Began from ▹ k) = may_by_steps h a o all k
  may_by_steps h a o all (Committed b ▹ k) = may_by_steps h a o all k
  may_by_steps h a o all (Aborted bs ▹ k) = may_by_steps h a o all k

  -- the action has an access to the object
  abbrev pub has_used : History V → ℕ → ℕ → Bool → Bool
  has_used (Opened n) a o all = false
  has_used (Accessed b o' v ▹ older) a o all =
      (b == a && (o' == o && (all || writes v))) || has_used older a o all
  has_used (Began from ▹ older) a o all = has_used older a o all
  has_used (Committed b ▹ older) a o all = has_used older a o all
  has_used (Aborted bs ▹ older) a o all = has_used older a o all

  -- an action that passes the test has an access to the object
  abbrev pub used_by : (ℕ → Bool) → ℕ → Bool → History V → Bool
  used_by test o all (Opened n) = false
  used_by test o all (Accessed b o' v ▹ k) =
      ((o' == o && (all || writes v)) && test b) || used_by test o all k
  used_by test o all (Began from ▹ k) = used_by test o all k
  used_by test o all (Committed b ▹ k) = used_by test o all k
  used_by test o all (Aborted bs ▹ k) = used_by test o all k

  -- x is the owner of an access to the object
  abbrev pub holds : History V → ℕ → Bool → ℕ → Bool
  holds h o all x = used_by (λ a. is_exactly (owner_by_steps h a) x) o all h
