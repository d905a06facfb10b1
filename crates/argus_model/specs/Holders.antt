-- The holders of an object, for reading and for writing, and the two lock rules (Moss 1981, locking
-- rules).
use Rattle.std.specs.{List.list_all, Prelude.{Bool, List, false, filter, if◌then◌else◌, ℕ, ◌&&◌, ◌==◌, ◌||◌}}
use Rattle.argus_model.specs.{Ancestors.is_ancestor, Event.{Aborted, Accessed, Began, Committed}}
use Rattle.argus_model.specs.{History.{History, Opened, begun_actions, ◌▹◌}, Meaning.{Meaning, reads}}
use Rattle.argus_model.specs.{Numbers.{contains, insert, without}, Owner.{is_held_by, owner}}

module _ {V : Type 0} (kind : V → Bool) where
  -- an action that passes the test has an access of this kind to the object
  abbrev pub has_access : (ℕ → Bool) → ℕ → History V → Bool
  has_access test o (Opened n) = false
  has_access test o (Accessed a o' v ▹ older) =
      (o' == o && (kind v && test a)) || has_access test o older
  has_access test o (Began from ▹ older) = has_access test o older
  has_access test o (Committed a ▹ older) = has_access test o older
  has_access test o (Aborted actions ▹ older) = has_access test o older

  -- x is the owner of an access of this kind to the object
  abbrev pub is_holder : History V → ℕ → ℕ → Bool
  is_holder h o x = has_access (λ a. is_held_by x (owner h a)) o h

  -- all such owners, in increasing number
  abbrev pub holders : History V → ℕ → List ℕ
  holders h o = filter (is_holder h o) (begun_actions h)

-- these holders, after a has handed what it holds to p; the base isn't a holder
abbrev pub inherited : ℕ → ℕ → List ℕ → List ℕ
inherited a p xs =
    if contains xs a then (if p == 0 then without a xs else insert p (without a xs)) else xs

module _ {V C A : Type 0} (meaning : Meaning V C A) where
  -- the read holders of the object; a write access doesn't make a reader
  abbrev pub readers : History V → ℕ → List ℕ
  readers h o = holders (reads meaning) h o

  -- the write holders of the object
  abbrev pub writers : History V → ℕ → List ℕ
  writers h o = holders meaning.writes h o

  -- each write holder of the object is an ancestor of a
  abbrev pub may_read : History V → ℕ → ℕ → Bool
  may_read h a o = list_all (λ x. is_ancestor h x a) (writers h o)

  -- each holder of the object, for reading or for writing, is an ancestor of a
  abbrev pub may_write : History V → ℕ → ℕ → Bool
  may_write h a o = list_all (λ x. is_ancestor h x a) (readers h o)
      && list_all (λ x. is_ancestor h x a) (writers h o)
