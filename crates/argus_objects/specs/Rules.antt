-- The lock rules (Moss, Nested Transactions, 1981; Argus Reference Manual, MIT/LCS/TR-400, 1987),
-- and what holds of each object.
use Rattle.std.specs.Prelude.{◌≡◌, ℕ, Bool, true, not, ◌&&◌, ◌||◌, ◌==◌, nat_lt, nat_le, if◌then◌else◌, List, [], ◌∷◌}
use Rattle.std.specs.{Prelude.Option, List.list_all}
use Rattle.argus_actions.specs.{declared.action_id.ActionId.ActionId, Tree.{Tree, is_ancestor}}
use Rattle.argus_contents.specs.Content.{PlainContent}
use Rattle.argus_objects.specs.{declared.version.Version.Version, Object.{Object, PlainVersion, holders, writers}}

-- these are all ancestors of the action
abbrev pub all_above : Tree → ActionId → List ActionId → Bool
all_above tree a ids = list_all (λ x. is_ancestor tree x.0 a.0) ids

-- a read lock is granted when all holders of write locks are ancestors
abbrev pub may_read : Tree → Object → ActionId → Bool
may_read tree object a = all_above tree a (holders object.versions)

-- a write lock is granted when all holders of read and of write locks are ancestors
abbrev pub may_write : Tree → Object → ActionId → Bool
may_write tree object a =
    all_above tree a (holders object.versions) && all_above tree a object.readers

-- x is another action than y, and an ancestor of it
abbrev pub is_strictly_above : Tree → ActionId → ActionId → Bool
is_strictly_above tree x y = is_ancestor tree x.0 y.0 && not (x.0 == y.0)

-- each differs from all that follow, and they are its ancestors
abbrev pub is_chain : Tree → List ActionId → Bool
is_chain tree [] = true
is_chain tree (y ∷ older) = list_all (λ x. is_strictly_above tree x y) older && is_chain tree older

-- one of the two is an ancestor of the other
abbrev pub are_related : Tree → ActionId → ActionId → Bool
are_related tree x y = is_ancestor tree x.0 y.0 || is_ancestor tree y.0 x.0

-- the action is related to each of these
abbrev pub is_related : Tree → List ActionId → ActionId → Bool
is_related tree ids x = list_all (λ y. are_related tree x y) ids

-- holders of versions, the newest first, are distinct, and those after one are its ancestors; of a
-- reader and a version's holder one is an ancestor of the other
abbrev pub is_lawful : Tree → Object → Bool
is_lawful tree object = is_chain tree (holders object.versions)
    && list_all (is_related tree (holders object.versions)) object.readers

-- the content for an action: the version of its nearest ancestor that has one, else the base
abbrev pub visible_content : Tree → ActionId → Option PlainContent → List PlainVersion
    → Option PlainContent
visible_content tree a base [] = base
visible_content tree a base (v ∷ older) =
    if is_ancestor tree v.holder.0 a.0 then v.content else visible_content tree a base older

-- each number is below all that follow
abbrev pub is_ascending : List ActionId → Bool
is_ascending [] = true
is_ascending (x ∷ xs) = list_all (λ y. nat_lt x.0 y.0) xs && is_ascending xs

-- none of these numbers is past the action's
abbrev pub are_up_to : ActionId → List ActionId → Bool
are_up_to a ids = list_all (λ x. nat_le x.0 a.0) ids

-- readers are in increasing number, and so are the holders of versions
pub record AreInOrder (readers : List ActionId) (versions : List Version) : Type 0 where
  pub readers_ascend : is_ascending readers ≡ true
  pub writers_ascend : is_ascending (writers versions) ≡ true

-- every ancestor stays an ancestor
abbrev pub KeepsAncestors : Tree → Tree → Type 0
KeepsAncestors tree later = (x y : ℕ) → is_ancestor tree x y ≡ true → is_ancestor later x y ≡ true
