-- The list of each action's objects.
pub use Rattle.argus_objects.specs.ObjectList.{noted, passed, no_objects}
use Rattle.std.specs.Prelude.{◌≡◌, ◌≢◌, ℕ, ◌+◌, ◌-◌, ◌<◌, ◌≤◌, ◌==◌, ◌&&◌, nat_lt, List, [], length, slice_index_or}
use Rattle.std.specs.Prelude.{if◌then◌else◌, Option, None, Some}
use Rattle.argus_actions.specs.declared.action_id.ActionId.{ActionId}
use Rattle.argus_contents.specs.declared.obj_id.ObjId.{ObjId}
use Rattle.argus_objects.specs.{declared.held_list.HeldList.HeldList, declared.holdings.Holdings.Holdings}
use Rattle.argus_objects.specs.ObjectList.{NotedObjects}

-- a list that was given to no action
abbrev pub no_list : HeldList
no_list = record { holder = record { 0 = 0 }; objects = no_objects }

-- what the action of this number has in a list: all that is in it, if it is its own
abbrev pub own_objects : ℕ → HeldList → NotedObjects
own_objects n list = if list.holder.0 == n then list.objects else no_objects

-- what the action of this number has in the list whose number is in its place
unfoldable pub placed_objects : List HeldList → ℕ → Option ℕ → NotedObjects
placed_objects lists n None = no_objects
placed_objects lists n (Some index) = own_objects n (slice_index_or lists index no_list)

-- what is in the place of the action of this number, in places of the actions from `first` on
unfoldable pub place_at : ℕ → List (Option ℕ) → ℕ → Option ℕ
place_at first places n = if nat_lt n first then None else slice_index_or places (n - first) None

-- what the action of this number has, in these places and lists
abbrev pub list_of : ℕ → List (Option ℕ) → List HeldList → ℕ → NotedObjects
list_of first places lists n = placed_objects lists n (place_at first places n)

-- what is in the action's place
abbrev pub placed_at : Holdings → ActionId → Option ℕ
placed_at holdings a = place_at holdings.first holdings.places.items a.0

-- the list of an action
abbrev pub noted_by : Holdings → ActionId → NotedObjects
noted_by holdings a = list_of holdings.first holdings.places.items holdings.lists.items a.0

-- the objects in it; none if nothing was noted
abbrev pub objects_held_by : Holdings → ActionId → List ObjId
objects_held_by holdings a = (noted_by holdings a).objects

-- room for how many more objects there is in the action's list
abbrev pub holdings_room_of : Holdings → ActionId → ℕ
holdings_room_of holdings a = (noted_by holdings a).room

-- there is a place for the action's list, so that another list can be put there
pub record HasPlace (holdings : Holdings) (a : ActionId) : Type 0 where
  pub from : holdings.first ≤ a.0
  pub to : a.0 < holdings.first + length holdings.places.items

-- of this many places the one of the action of this number, past the end if there is none
pub record IsPlace (first count n place : ℕ) : Type 0 where
  pub none : n < first → count ≤ place
  pub some : first ≤ n → first + place ≡ n

-- the number in an action's place, if it is that of a list which is the action's own
unfoldable pub owned_index : List HeldList → ℕ → Option ℕ → Option ℕ
owned_index lists n None = None
owned_index lists n (Some index) =
    if nat_lt index (length lists) && ((slice_index_or lists index no_list).holder.0 == n) then Some index else None

-- the number of the action's list, if it has one
abbrev pub list_number : Holdings → ActionId → Option ℕ
list_number holdings a = owned_index holdings.lists.items a.0 (placed_at holdings a)

-- this is the number of the action's list
pub record IsListOf (holdings : Holdings) (a : ActionId) (index : ℕ) : Type 0 where
  pub placed : placed_at holdings a ≡ Some index
  pub there : index < length holdings.lists.items
  pub own : (slice_index_or holdings.lists.items index no_list).holder.0 ≡ a.0

-- no action but this one has the list of this number
abbrev pub IsOfNoOther : Holdings → ActionId → ℕ → Type 0
IsOfNoOther holdings a index =
    (x : ActionId) → x.0 ≢ a.0 → placed_at holdings x ≡ Some index
    → (slice_index_or holdings.lists.items index no_list).holder.0 ≢ x.0

-- each action has what it had, in a list with the same room
abbrev pub SameNoted : Holdings → Holdings → Type 0
SameNoted old new = (x : ActionId) → noted_by new x ≡ noted_by old x

-- the list of this action is another one, and all other lists stay
abbrev pub Lists : Holdings → ActionId → List ObjId → Holdings → Type 0
Lists old a list new = (x : ActionId) → objects_held_by new x ≡ (if x.0
    == a.0 then list else objects_held_by old x)

-- the parent's list takes up that of s, whose list is empty; all others stay
abbrev pub PassedOn : Holdings → ActionId → ActionId → Holdings → Type 0
PassedOn old s parent new =
    (x : ActionId) → objects_held_by new x
    ≡ (if x.0 == s.0 then [] else (if x.0 == parent.0 then passed (objects_held_by old s)
    (objects_held_by old parent) else objects_held_by old x))

-- all lists stay
abbrev pub SameLists : Holdings → Holdings → Type 0
SameLists old new = (x : ActionId) → objects_held_by new x ≡ objects_held_by old x

-- each list keeps at least the room that it had
abbrev pub KeepsRooms : Holdings → Holdings → Type 0
KeepsRooms old new = (x : ActionId) → holdings_room_of old x ≤ holdings_room_of new x

-- each list keeps its room, except this action's, which may lose one place
abbrev pub TakesOnePlace : Holdings → ActionId → Holdings → Type 0
TakesOnePlace old a new =
    (x : ActionId) → holdings_room_of old x ≤ holdings_room_of new x + (if x.0 == a.0 then 1 else 0)
