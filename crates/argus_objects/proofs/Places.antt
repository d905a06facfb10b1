-- Lists of actions, each named in its action's place.
use Rattle.std.proofs.Common.{◌≡◌, ◌≢◌, ℕ, zero, suc, ◌+◌, ◌-◌, ◌<◌, ◌≤◌, cond, eqb, List, [], ◌∷◌, ◌++◌, length}
use Rattle.std.proofs.Common.{get_or, set, Option, None, Some, refl, sym, ◌∙◌, ap, inl, inr, arith}
use Rattle.std.proofs.lemmas.Bool.{cond-false, eq-eqb, ne_eqb, cases_lt, lt-ltb, le-ltb, cond-true, Decides.nat_tests}
use Rattle.std.proofs.lemmas.{Option.none-some, List.{get_or_past, get_or-set_same, get_or-set_other, get_or_default}}
use Rattle.argus_actions.specs.declared.action_id.ActionId.{ActionId}
use Rattle.argus_contents.specs.declared.obj_id.ObjId.{ObjId}
use Rattle.argus_objects.specs.{declared.{held_list.HeldList.HeldList, holdings.Holdings.Holdings}, Holdings.HasPlace}
use Rattle.argus_objects.specs.Holdings.{IsListOf, IsOfNoOther, IsPlace, list_number, no_list, noted_by, own_objects}
use Rattle.argus_objects.specs.{Holdings.{owned_index, place_at, placed_at, placed_objects}, ObjectList.NotedObjects}
use Rattle.argus_objects.specs.ObjectList.{no_objects, passed}

-- what stands in an action's place
pub place_before : (first : ℕ) (ps : List (Option ℕ)) (n : ℕ) → n < first → place_at first ps n ≡ None
unfolding place_at
place_before first ps n less = rw (lt-ltb n first less) refl

pub place_from : (first : ℕ) (ps : List (Option ℕ)) (n : ℕ) → first ≤ n
    → place_at first ps n ≡ get_or ps (n - first) None
unfolding place_at
place_from first ps n le = rw (le-ltb n first le) refl

pub place_is : (first : ℕ) (ps : List (Option ℕ)) (n p : ℕ) → IsPlace first (length ps) n p
    → place_at first ps n ≡ get_or ps p None
place_is first ps n p is = grind (arith, nat_tests, place_before, get_or_past, place_from)

pub place_put : (first : ℕ) (ps : List (Option ℕ)) (n p : ℕ) (q : Option ℕ) → IsPlace first (length ps) n p
    → p < length ps → (x : ℕ) → place_at first (set ps p q) x ≡ cond (eqb x n) q (place_at first ps x)
place_put first ps n p q is within x =
    grind (arith, nat_tests, place_from, get_or-set_same, place_before, get_or-set_other)

-- nothing in a place at the end
pub place_push : (first : ℕ) (ps : List (Option ℕ)) (x : ℕ) → place_at first (ps ++ None ∷ []) x ≡ place_at first ps x
place_push first ps x =
    elim (cases_lt x first) [
      | inl less ↦ place_before first (ps ++ None ∷ []) x less ∙ sym (place_before first ps x less)
      | inr le ↦ place_from first (ps ++ None ∷ []) x le ∙ at ps (x - first) ∙ sym (place_from first ps x le)
    ]
  where
    at : (l : List (Option ℕ)) (i : ℕ) → get_or (l ++ None ∷ []) i None ≡ get_or l i None
    at [] zero = refl
    at [] (suc i) = refl
    at (p ∷ l) zero = refl
    at (p ∷ l) (suc i) = at l i

-- and in front
pub place_front : (first next : ℕ) (ps : List (Option ℕ)) (x : ℕ) → next + 1 ≡ first
    → place_at next (None ∷ ps) x ≡ place_at first ps x
place_front first next ps x is = grind (arith, nat_tests, place_before, place_from)

-- where there are no places
pub place_nowhere : (first n : ℕ) → place_at first [] n ≡ None
place_nowhere first n = grind (arith, nat_tests, place_before, place_from)

-- an action has nothing in another's list
pub of_another : (x : ℕ) (list : HeldList) → list.holder.0 ≢ x → own_objects x list ≡ no_objects
of_another x list ne = cond-false _ list.objects no_objects (ne_eqb list.holder.0 x ne)

pub of_own : (x : ℕ) (list : HeldList) → list.holder.0 ≡ x → own_objects x list ≡ list.objects
of_own x list e = cond-true _ list.objects no_objects (eq-eqb list.holder.0 x e)

-- another list under this number, of one action, is nothing to those who had nothing there
pub given_away : (lists : List HeldList) (i : ℕ) (y : HeldList) (x : ℕ) → i < length lists → y.holder.0 ≢ x
    → (p : Option ℕ) → (p ≡ Some i → placed_objects lists x p ≡ no_objects)
    → placed_objects (set lists i y) x p ≡ placed_objects lists x p
unfolding placed_objects
given_away lists i y x there ne None none = refl
given_away lists i y x there ne (Some j) none = grind (arith, nat_tests, get_or-set_same, of_another, get_or-set_other)

-- whose list is named in a place
pub owned_is : (lists : List HeldList) (n i : ℕ) → i < length lists → (get_or lists i no_list).holder.0 ≡ n
    → owned_index lists n (Some i) ≡ Some i
unfolding owned_index
owned_is lists n i there own = grind (arith, nat_tests)

pub owned_past : (lists : List HeldList) (n i : ℕ) → length lists ≤ i → owned_index lists n (Some i) ≡ None
unfolding owned_index
owned_past lists n i past = grind (arith, nat_tests)

pub owned_other : (lists : List HeldList) (n i : ℕ) → (get_or lists i no_list).holder.0 ≢ n
    → owned_index lists n (Some i) ≡ None
unfolding owned_index
owned_other lists n i other = grind (arith, nat_tests)

owned_parts : (lists : List HeldList) (n : ℕ) (p : Option ℕ) (i : ℕ) → owned_index lists n p ≡ Some i
    → (p ≡ Some i) × ((i < length lists) × ((get_or lists i no_list).holder.0 ≡ n))
unfolding owned_index
owned_parts lists n p i is = grind (arith, nat_tests)

owned_none : (lists : List HeldList) (n : ℕ) (p : Option ℕ) → owned_index lists n p ≡ None
    → placed_objects lists n p ≡ no_objects
unfolding placed_objects owned_index
owned_none lists n None is = refl
owned_none lists n (Some i) is = grind (arith, nat_tests, none-some, owned_is, get_or_past, of_another, of_own)

-- the action's list, as `index_of` finds it
pub listed : (h : Holdings) (a : ActionId) (i : ℕ) → list_number h a ≡ Some i → IsListOf h a i
listed h a i is = grind (arith, nat_tests, owned_parts h.lists.items a.0 (placed_at h a) i is)

pub unlisted : (h : Holdings) (a : ActionId) → list_number h a ≡ None → noted_by h a ≡ no_objects
unlisted h a is = owned_none h.lists.items a.0 (placed_at h a) is

pub number_of : (h : Holdings) (a : ActionId) (i : ℕ) → IsListOf h a i → list_number h a ≡ Some i
number_of h a i is = ap (owned_index h.lists.items a.0) is.placed ∙ owned_is h.lists.items a.0 i is.there is.own

pub noted_is : (h : Holdings) (a : ActionId) (i : ℕ) → IsListOf h a i
    → noted_by h a ≡ (get_or h.lists.items i no_list).objects
unfolding placed_objects
noted_is h a i is = grind (arith, nat_tests, of_own)

-- an action whose list has a number has a place
pub has_place : (h : Holdings) (a : ActionId) (i : ℕ) → IsListOf h a i → HasPlace h a
has_place h a i is = grind (arith, nat_tests, none-some, place_before, get_or_past, place_from)

-- a list changed in its place
pub noted_set : (h : Holdings) (a : ActionId) (i : ℕ) (y : HeldList) → IsListOf h a i → y.holder.0 ≡ a.0
    → (x : ℕ) → placed_objects (set h.lists.items i y) x (place_at h.first h.places.items x)
    ≡ cond (eqb x a.0) y.objects (placed_objects h.lists.items x (place_at h.first h.places.items x))
unfolding placed_objects
noted_set h a i y is own x = grind (arith, nat_tests, get_or-set_same, of_own, given_away, of_another)

-- what an action has that has nothing
pub objects_none : (old : ℕ → NotedObjects) (n : ℕ) (os : List ObjId) → (old n).objects ≡ os
    → (x : ActionId) → (old x.0).objects ≡ cond (eqb x.0 n) os (old x.0).objects
objects_none old n os e x = grind (arith, nat_tests)

pub noted_none : (old : ℕ → NotedObjects) (n : ℕ) → old n ≡ no_objects
    → (x : ℕ) → old x ≡ cond (eqb x n) no_objects (old x)
noted_none old n none x = grind (arith, nat_tests)

pub none_of_none : (os : List ObjId) → length os ≤ 0 → os ≡ []
none_of_none [] few = refl
none_of_none (o ∷ os) few = absurd (omega (arith, few))

-- what is read under the number of an action's list
pub record IsRead (h : Holdings) (a : ActionId) (i : ℕ) (list : HeldList) : Type 0 where
  pub is : IsListOf h a i
  pub noted : noted_by h a ≡ list.objects
  pub own : list.holder.0 ≡ a.0

-- what is read there is what the action has
pub noted_read : (h : Holdings) (a : ActionId) (i : ℕ) (list : HeldList) → IsListOf h a i
    → list ≡ get_or h.lists.items i list → IsRead h a i list
noted_read h a i list is at = grind (arith, nat_tests, noted_is, get_or_default)

-- the same, where `index_of` has found the number
pub found_read : (h : Holdings) (a : ActionId) (i : ℕ) (list : HeldList) (found : Option ℕ) → found ≡ list_number h a
    → found ≡ Some i → list ≡ get_or h.lists.items i list → IsRead h a i list
found_read h a i list found of is at = noted_read h a i list (listed h a i (sym of ∙ is)) at

-- other objects put into that list
module _ {h : Holdings} {a : ActionId} {i : ℕ} {list : HeldList} (read : IsRead h a i list)
    (objects : NotedObjects) where
  abbrev pub old : ℕ → NotedObjects
  old x = placed_objects h.lists.items x (place_at h.first h.places.items x)

  abbrev pub new : ℕ → NotedObjects
  new x = placed_objects (set h.lists.items i (record { holder = list.holder; objects = objects })) x
      (place_at h.first h.places.items x)

  -- only that action has something else then
  pub put_in : (x : ℕ) → new x ≡ cond (eqb x a.0) objects (old x)
  put_in = noted_set h a i (record { holder = list.holder; objects = objects }) read.is read.own

  pub objects_set : (os : List ObjId) → objects.objects ≡ os → (x : ActionId)
      → (new x.0).objects ≡ cond (eqb x.0 a.0) os (noted_by h x).objects
  objects_set os e x = grind (arith, nat_tests, put_in x.0)

  pub objects_kept : objects.objects ≡ (noted_by h a).objects → (x : ActionId)
      → (new x.0).objects ≡ (noted_by h x).objects
  objects_kept e x = grind (arith, nat_tests, put_in x.0)

  pub rooms_set : (noted_by h a).room ≤ objects.room + 1 → (x : ActionId)
      → (noted_by h x).room ≤ (new x.0).room + cond (eqb x.0 a.0) 1 0
  rooms_set most x = grind (arith, nat_tests, put_in x.0)

  pub rooms_kept : (noted_by h a).room ≤ objects.room → (x : ActionId) → (noted_by h x).room ≤ (new x.0).room
  rooms_kept most x = grind (arith, nat_tests, put_in x.0)

  pub room_at : (new a.0).room ≡ objects.room
  room_at = grind (arith, nat_tests, put_in a.0)

-- where no list is the action's, nothing is changed
pub none_set : (h : Holdings) (a : ActionId) (os : List ObjId) → list_number h a ≡ None → [] ≡ os → (x : ActionId)
    → (noted_by h x).objects ≡ cond (eqb x.0 a.0) os (noted_by h x).objects
none_set h a os none e = grind (arith, nat_tests, unlisted)

-- a list of no objects more
pub list_more : (lists : List HeldList) (y : HeldList) (x : ℕ) (p : Option ℕ) → y.objects ≡ no_objects
    → placed_objects (lists ++ y ∷ []) x p ≡ placed_objects lists x p
unfolding placed_objects
list_more lists y x None none = refl
list_more lists y x (Some i) none = at lists i
  where
    at : (l : List HeldList) (i : ℕ)
        → own_objects x (get_or (l ++ y ∷ []) i no_list) ≡ own_objects x (get_or l i no_list)
    at [] zero = grind (arith, nat_tests)
    at [] (suc i) = refl
    at (z ∷ l) zero = refl
    at (z ∷ l) (suc i) = at l i

-- a list is nobody's if it isn't the one of the action that it names
pub nobody_has : (h : Holdings) (i : ℕ) (list : HeldList) → i < length h.lists.items
    → list ≡ get_or h.lists.items i no_list → (list_number h list.holder ≡ Some i → ⊥) → (a : ActionId)
    → IsOfNoOther h a i
nobody_has h i list there read other a x ne placed own = grind (arith, nat_tests, number_of)

-- of an action that gets a list which no other has, or none, the others notice nothing
pub placed_anew : (h : Holdings) (a : ActionId) (i : ℕ) (y : HeldList) (q : Option ℕ) (place : ActionId → Option ℕ)
    → i < length h.lists.items → y.holder.0 ≡ a.0 → IsOfNoOther h a i
    → ((x : ActionId) → place x ≡ cond (eqb x.0 a.0) q (placed_at h x)) → (x : ActionId)
    → placed_objects (set h.lists.items i y) x.0 (place x)
    ≡ cond (eqb x.0 a.0) (placed_objects (set h.lists.items i y) a.0 q) (noted_by h x)
unfolding placed_objects
placed_anew h a i y q place there own free put x = grind (arith, nat_tests, given_away, of_another)

-- no other action has the list that is an action's
pub of_no_other : (h : Holdings) (a : ActionId) (i : ℕ) → IsListOf h a i → IsOfNoOther h a i
of_no_other h a i is x ne placed own = ne (sym own ∙ is.own)

-- an action's list handed to another, whose place gets its number
pub handed_on : (h : Holdings) (s n : ActionId) (i : ℕ) (y : HeldList) (place : ActionId → Option ℕ)
    → IsListOf h s i → y.holder.0 ≡ n.0 → y.objects ≡ noted_by h s → s.0 ≢ n.0
    → ((x : ActionId) → place x ≡ cond (eqb x.0 n.0) (Some i) (placed_at h x)) → (x : ActionId)
    → placed_objects (set h.lists.items i y) x.0 (place x)
    ≡ cond (eqb x.0 s.0) no_objects (cond (eqb x.0 n.0) (noted_by h s) (noted_by h x))
unfolding placed_objects
handed_on h s n i y place is own same other put x =
    grind (arith, nat_tests, get_or-set_same, of_own, of_another, given_away)

-- what `hand_up` leaves, where there is something to hand up and where there is not
pub objects_handed : (h : Holdings) (s n : ActionId) (new : ActionId → NotedObjects)
    → ((x : ActionId) → new x ≡ cond (eqb x.0 s.0) no_objects (cond (eqb x.0 n.0) (noted_by h s) (noted_by h x)))
    → (noted_by h n).objects ≡ [] → passed (noted_by h s).objects [] ≡ (noted_by h s).objects → (x : ActionId)
    → (new x).objects ≡ cond (eqb x.0 s.0) []
    (cond (eqb x.0 n.0) (passed (noted_by h s).objects (noted_by h n).objects) (noted_by h x).objects)
objects_handed h s n new handed none all x = grind (arith, nat_tests)

pub nothing_handed : (h : Holdings) (s n : ActionId) → (noted_by h s).objects ≡ [] → (noted_by h n).objects ≡ []
    → (x : ActionId) → (noted_by h x).objects
    ≡ cond (eqb x.0 n.0) (passed (noted_by h s).objects (noted_by h n).objects) (noted_by h x).objects
nothing_handed h s n nothing none = grind (arith, nat_tests)

pub none_handed : (h : Holdings) (s n : ActionId) → (noted_by h s).objects ≡ [] → (noted_by h n).objects ≡ []
    → (x : ActionId) → (noted_by h x).objects ≡ cond (eqb x.0 s.0) []
    (cond (eqb x.0 n.0) (passed (noted_by h s).objects (noted_by h n).objects) (noted_by h x).objects)
none_handed h s n nothing none x = grind (arith, nat_tests, nothing_handed)

-- what is passed to one that has nothing is what it has then
pub handed_whole : (h : Holdings) (s n : ActionId) (left : List ObjId) → s.0 ≢ n.0 → (noted_by h n).objects ≡ []
    → passed (noted_by h s).objects [] ≡ (noted_by h s).objects
    → left ≡ cond (eqb n.0 s.0) []
    (cond (eqb n.0 n.0) (passed (noted_by h s).objects (noted_by h n).objects) (noted_by h n).objects)
    → left ≡ (noted_by h s).objects
handed_whole h s n left other none all is = grind (arith, nat_tests)

-- what an action has that gets a list, and what it has whose place is emptied
pub given_objects : (h : Holdings) (a : ActionId) (i : ℕ) (y : HeldList) (place : ActionId → Option ℕ)
    → i < length h.lists.items → y.holder.0 ≡ a.0 → IsOfNoOther h a i → ((x : ActionId)
    → place x ≡ cond (eqb x.0 a.0) (Some i) (placed_at h x)) → noted_by h a ≡ no_objects → y.objects.objects ≡ []
    → (x : ActionId) → (placed_objects (set h.lists.items i y) x.0 (place x)).objects ≡ (noted_by h x).objects
unfolding placed_objects
given_objects h a i y place there own free put none empty x =
    let has = get_or-set_same h.lists.items i y no_list there in
    let mine = of_own a.0 y own in
    grind (arith, nat_tests, placed_anew h a i y (Some i) place there own free put x, has, mine)

pub given_rooms : (h : Holdings) (a : ActionId) (i : ℕ) (y : HeldList) (place : ActionId → Option ℕ)
    → i < length h.lists.items → y.holder.0 ≡ a.0 → IsOfNoOther h a i
    → ((x : ActionId) → place x ≡ cond (eqb x.0 a.0) (Some i) (placed_at h x)) → noted_by h a ≡ no_objects
    → (x : ActionId) → (noted_by h x).room ≤ (placed_objects (set h.lists.items i y) x.0 (place x)).room
given_rooms h a i y place there own free put none x =
    grind (arith, nat_tests, placed_anew h a i y (Some i) place there own free put x)

pub cleared_objects : (h : Holdings) (a : ActionId) (i : ℕ) (y : HeldList) (place : ActionId → Option ℕ)
    → IsListOf h a i → y.holder.0 ≡ a.0 → ((x : ActionId) → place x ≡ cond (eqb x.0 a.0) None (placed_at h x))
    → (x : ActionId) → (placed_objects (set h.lists.items i y) x.0 (place x)).objects
    ≡ cond (eqb x.0 a.0) [] (noted_by h x).objects
unfolding placed_objects
cleared_objects h a i y place is own put x =
    grind (arith, nat_tests, placed_anew h a i y None place is.there own (of_no_other h a i is) put x)
