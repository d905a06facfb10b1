-- Of a write holder and any other holder, one is an ancestor of the other.
use Rattle.std.proofs.Common.{Bool, List, Some, arith, false, inl, inr, refl, sym, true, ℕ, ◌<◌, ◌∙◌, ◌≡◌, ◌≢◌, ◌⊎◌}
use Rattle.std.proofs.{lemmas.Bool.false≢true, lemmas.Bool.Decides.nat_tests}
use Rattle.std.specs.Prelude.{◌&&◌, ◌==◌, ◌||◌}
use Rattle.argus_model.specs.{Ancestors.{is_ancestor, parent}, OwnerSteps.{StandsAlone, owner_by_steps, stands}}
use Rattle.argus_model.specs.{Event.{Aborted, Accessed, Began, Committed, Origin}, HolderSteps.{has_used, may_by_steps}}
use Rattle.argus_model.specs.History.{History, Opened, next_action, ◌▹◌}
use Rattle.argus_model.proofs.Ancestors.{ParentsAreOlder, ancestor_old, ancestor_self, ancestor_trans, parent_older}
use Rattle.argus_model.proofs.Standing.{Orderly, handed_cases, owner_begun, owner_cases, parent_is, parents_are_older}
use Rattle.argus_model.proofs.Standing.{stands_begun}

-- an ancestor of an action that stands, other than the action itself, is an ancestor of its parent
pub above_parent : {V : Type 0} (history : History V) → ParentsAreOlder history → (action above : ℕ) → action ≢ 0
    → stands history action ≡ true → above ≢ action → is_ancestor history above action ≡ true
    → is_ancestor history above (parent history action) ≡ true
above_parent history older action above not_base standing another is_above =
    grind (arith, nat_tests, parent_older, stands_begun)

-- one is an ancestor of the other
abbrev pub Related : {V : Type 0} → History V → ℕ → ℕ → Type 0
Related history one other = (is_ancestor history one other ≡ true) ⊎ (is_ancestor history other one ≡ true)

turned : {V : Type 0} (history : History V) (one other : ℕ) → Related history one other → Related history other one
turned history one other (inl above) = inr above
turned history one other (inr below) = inl below

related_to_itself : {V : Type 0} (history : History V) (one other : ℕ) → one ≡ other → Related history one other
related_to_itself history one other same = inl (rw same (ancestor_self history other))

-- what stands is its own owner
same_owner : {V : Type 0} (history : History V) (standing action owner : ℕ) → standing ≡ action
    → stands history standing ≡ true → owner_by_steps history action ≡ Some owner → owner ≡ standing
same_owner history standing action owner same stands_now owned = grind (arith, nat_tests)

-- Of each lemma here `all` says which accesses it speaks of: all of them, or the write accesses alone.
module _ {V : Type 0} (writes : V → Bool) where
  -- each access was allowed by the holders
  abbrev pub Guarded : History V → Type 0
  Guarded (Opened before) = Unit {0}
  Guarded (Accessed action object what ▹ older) =
      (may_by_steps writes older action object (writes what) older ≡ true) × Guarded older
  Guarded (_ ▹ older) = Guarded older

  -- who has used the object after one more access did so by that access, or had used it before
  pub has_used_cases : (history : History V) (accessor accessed : ℕ) (what : V) (action object : ℕ) (all : Bool)
      → has_used writes (Accessed accessor accessed what ▹ history) action object all ≡ true
      → ((accessor ≡ action) × (accessed ≡ object) × ((all || writes what) ≡ true))
      ⊎ (has_used writes history action object all ≡ true)
  has_used_cases history accessor accessed what action object all used = grind (arith, nat_tests)

  -- who accesses the object has used it
  pub has_used_now : (history : History V) (accessor accessed : ℕ) (what : V) (object : ℕ) (all : Bool)
      → (accessed == object && (all || writes what)) ≡ true
      → has_used writes (Accessed accessor accessed what ▹ history) accessor object all ≡ true
  has_used_now history accessor accessed what object all counted = grind (arith, nat_tests)

  -- who had used the object has used it after one more access, too
  pub has_used_more : (history : History V) (accessor accessed : ℕ) (what : V) (action object : ℕ) (all : Bool)
      → has_used writes history action object all ≡ true
      → has_used writes (Accessed accessor accessed what ▹ history) action object all ≡ true
  has_used_more history accessor accessed what action object all used = grind (arith, nat_tests)

  -- a write access counts among all accesses, too
  pub has_used_all : (history : History V) (action object : ℕ) (all : Bool)
      → has_used writes history action object false ≡ true → has_used writes history action object all ≡ true
  has_used_all (Opened before) action object all wrote = absurd (false≢true wrote)
  has_used_all (Accessed accessor accessed what ▹ older) action object all wrote =
      grind (arith, nat_tests, has_used_all older action object all)
  has_used_all (_ ▹ older) action object all wrote = has_used_all older action object all wrote

  -- who has used an object has begun
  pub has_used_begun : (history : History V) → Orderly history → (action object : ℕ) (all : Bool)
      → has_used writes history action object all ≡ true → action < next_action history
  has_used_begun (Opened before) orderly action object all used = absurd (false≢true used)
  has_used_begun (Began from ▹ older) orderly action object all used =
      let begun_before = has_used_begun older orderly.1 action object all used in omega arith
  has_used_begun (Accessed accessor accessed what ▹ older) orderly action object all used =
      grind (arith, nat_tests, has_used_cases, stands_begun, has_used_begun older orderly.1 action object all)
  has_used_begun (_ ▹ older) orderly action object all used = has_used_begun older orderly.1 action object all used

  -- where a lock is free for an action, each owner of an access in `older` to the object is an ancestor of it
  pub may_tells : (history older : History V) (action object user owner : ℕ) (all : Bool)
      → may_by_steps writes history action object all older ≡ true → has_used writes older user object all ≡ true
      → owner_by_steps history user ≡ Some owner → is_ancestor history owner action ≡ true
  may_tells history (Opened before) action object user owner all free used owned = absurd (false≢true used)
  may_tells history (Accessed accessor accessed what ▹ older) action object user owner all free used owned =
      grind (arith, nat_tests, may_tells history older action object user owner all)
  may_tells history (_ ▹ older) action object user owner all free used owned =
      may_tells history older action object user owner all free used owned

  -- where each owner of an access in `older` to the object is an ancestor of an action, the lock is free for it
  pub may_from : (history older : History V) (action object : ℕ) (all : Bool)
      → ((user owner : ℕ) → has_used writes older user object all ≡ true → owner_by_steps history user ≡ Some owner
      → is_ancestor history owner action ≡ true) → may_by_steps writes history action object all older ≡ true
  may_from history (Opened before) action object all each = refl
  may_from history (Accessed accessor accessed what ▹ older) action object all each =
      let now = has_used_now older accessor accessed what object all in
      let more = has_used_more older accessor accessed what in
      grind (arith, nat_tests, may_from history older action object all, now, more, each accessor)
  may_from history (_ ▹ older) action object all each = may_from history older action object all each

  -- of the owners of a write access and of any access to the object, one is an ancestor of the other
  abbrev pub Exclusive : History V → Type 0
  Exclusive history =
      (writer user object holder other : ℕ) → has_used writes history writer object false ≡ true
      → has_used writes history user object true ≡ true → owner_by_steps history writer ≡ Some holder
      → owner_by_steps history user ≡ Some other → Related history holder other

  -- a begin gives no owner to what has used an object
  owner_before : (history : History V) (from : Origin) → Orderly history → (action object owner : ℕ) (all : Bool)
      → has_used writes history action object all ≡ true → owner_by_steps (Began from ▹ history) action ≡ Some owner
      → owner_by_steps history action ≡ Some owner
  owner_before history from orderly action object owner all used owned =
      grind (arith, nat_tests, has_used_begun, orderly, owner_cases)

  exclusive_begin : (history : History V) (from : Origin) → Orderly history → Exclusive history
      → Exclusive (Began from ▹ history)
  exclusive_begin history from orderly exclusive writer user object holder other wrote used held other_held =
      let before = owner_before history from orderly in let older = parents_are_older history orderly in
      grind (arith, nat_tests, exclusive writer user object, before, owner_begun history, older, ancestor_old)

  module _ (history : History V) (child : ℕ) (orderly : Orderly history) (alone : StandsAlone history child) where
    -- the owner is the parent, in the place of the child that has committed, or who it was before
    abbrev OwnerCases : ℕ → ℕ → Type 0
    OwnerCases action owner =
        ((owner_by_steps history action ≡ Some child) × (owner ≡ parent history child))
        ⊎ ((owner_by_steps history action ≡ Some owner) × (owner ≢ child))

    -- whom the child was related to, its parent is related to
    parent_related : (action owner : ℕ) → owner_by_steps history action ≡ Some owner → owner ≢ child
        → Related history child owner → Related history (parent history child) owner
    parent_related action owner owned another (inl above) =
        grind (arith, nat_tests, parents_are_older, orderly, parent_is, owner_begun, ancestor_trans)
    parent_related action owner owned another (inr below) =
        grind (arith, nat_tests, parents_are_older, orderly, above_parent)

    -- owners that were related before the commit are related after it
    related_after : (writer user holder other : ℕ)
        → ((one another : ℕ) → owner_by_steps history writer ≡ Some one → owner_by_steps history user ≡ Some another
        → Related history one another) → OwnerCases writer holder → OwnerCases user other
        → Related history holder other
    related_after writer user holder other before (inl handed) (inl other_handed) =
        related_to_itself history holder other (handed.1 ∙ sym other_handed.1)
    related_after writer user holder other before (inl handed) (inr other_kept) =
        grind (arith, nat_tests, parent_related)
    related_after writer user holder other before (inr kept) (inl other_handed) =
        grind (arith, nat_tests, turned, parent_related)
    related_after writer user holder other before (inr kept) (inr other_kept) =
        before holder other kept.0 other_kept.0

    exclusive_commit : Exclusive history → Exclusive (Committed child ▹ history)
    exclusive_commit exclusive writer user object holder other wrote used held other_held =
        grind (arith, nat_tests, related_after, exclusive, wrote, handed_cases)

  exclusive_abort : (history : History V) (actions : List ℕ) → Exclusive history
      → Exclusive (Aborted actions ▹ history)
  exclusive_abort history actions exclusive writer user object holder other wrote used held other_held =
      grind (arith, nat_tests)

  module _ (history : History V) (accessor accessed : ℕ) (what : V) (standing : stands history accessor ≡ true)
      (free : may_by_steps writes history accessor accessed (writes what) history ≡ true) where
    -- the access is this one, or an earlier one
    abbrev AccessCases : ℕ → ℕ → Bool → Type 0
    AccessCases action object all =
        ((accessor ≡ action) × (accessed ≡ object) × ((all || writes what) ≡ true))
        ⊎ (has_used writes history action object all ≡ true)

    -- who has used the object that is accessed has an owner above who accesses it
    owner_above : (action object owner : ℕ) → accessed ≡ object
        → has_used writes history action object (writes what) ≡ true → owner_by_steps history action ≡ Some owner
        → is_ancestor history owner accessor ≡ true
    owner_above action object owner same used owned =
        may_tells history history accessor accessed action owner (writes what) free (rw same used) owned

    related_with : (writer user object holder other : ℕ)
        → (has_used writes history writer object false ≡ true → has_used writes history user object true ≡ true
        → Related history holder other) → owner_by_steps history writer ≡ Some holder
        → owner_by_steps history user ≡ Some other → AccessCases writer object false → AccessCases user object true
        → Related history holder other
    related_with writer user object holder other before held other_held (inl wrote) (inl used) =
        grind (arith, nat_tests, same_owner, related_to_itself)
    related_with writer user object holder other before held other_held (inl wrote) (inr used) =
        grind (arith, nat_tests, same_owner, owner_above)
    related_with writer user object holder other before held other_held (inr wrote) (inl used) =
        let is_accessor = same_owner history accessor user other used.0 standing other_held in
        let wrote_before = has_used_all history writer object (writes what) wrote in
        inl (rw is_accessor (owner_above writer object holder used.1 wrote_before held))
    related_with writer user object holder other before held other_held (inr wrote) (inr used) = before wrote used

    exclusive_access : Exclusive history → Exclusive (Accessed accessor accessed what ▹ history)
    exclusive_access exclusive writer user object holder other wrote used held other_held =
        grind (arith, nat_tests, related_with, exclusive, has_used_cases, wrote)

  -- a history in which each access got its lock is exclusive
  pub exclusion : (history : History V) → Orderly history → Guarded history → Exclusive history
  exclusion (Opened before) orderly guarded =
      λ writer user object holder other wrote used held other_held. absurd (false≢true wrote)
  exclusion (Began from ▹ older) orderly guarded =
      exclusive_begin older from orderly.1 (exclusion older orderly.1 guarded)
  exclusion (Committed child ▹ older) orderly guarded =
      exclusive_commit older child orderly.1 orderly.0 (exclusion older orderly.1 guarded)
  exclusion (Aborted actions ▹ older) orderly guarded =
      exclusive_abort older actions (exclusion older orderly.1 guarded)
  exclusion (Accessed accessor accessed what ▹ older) orderly guarded =
      grind (arith, nat_tests, exclusive_access, exclusion older orderly.1 guarded.1)
