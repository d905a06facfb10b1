-- The next object is new on the parent's list exactly if the parent doesn't hold it.
use Rattle.std.proofs.Common.{Bool, List, ap, arith, cond, false, get_or, inl, inr, length, refl, subst, sym, take}
use Rattle.std.proofs.{Common.{true, ℕ, ◌+◌, ◌<◌, ◌≤◌, ◌||◌, ◌∙◌, ◌≡◌, ◌≢◌}, lemmas.Bool.{cases_eq, eq-eqb, ne_eqb}}
use Rattle.std.specs.{List.IsDistinct, Prelude.{not, ◌==◌}}
use Rattle.argus_actions.specs.declared.action_id.ActionId.{ActionId}
use Rattle.argus_contents.specs.declared.obj_id.ObjId.{ObjId}
use Rattle.argus_core.specs.{Accessing.{HasListRoom, IsListedIfHeld}, Moving.{AreThere, is_listed}}
use Rattle.argus_core.specs.declared.engine.atomic_object.AtomicObject.{AtomicObject}
use Rattle.argus_core.proofs.{Changes.listed_at, Noted.{listed_yet, passed_more}}
use Rattle.argus_objects.specs.{CellChanges.{has_version, is_reader}, declared.holdings.Holdings.Holdings}
use Rattle.argus_objects.specs.Holdings.{Lists, TakesOnePlace, holdings_room_of, noted, objects_held_by, passed}
use Rattle.argus_core.proofs.engine.inheriting.note_missing.Goals as goal

-- the list of another action is as it was
other_list : (old new : Holdings) (p a : ActionId) (list : List ObjId) → Lists old p list new → a.0 ≢ p.0
    → objects_held_by new a ≡ objects_held_by old a
other_list old new p a list lists other = lists a ∙ ap (λ b. cond b list (objects_held_by old a)) (ne_eqb a.0 p.0 other)

-- this action's is the new one
this_list : (old new : Holdings) (p x : ActionId) (list : List ObjId) → Lists old p list new → x.0 ≡ p.0
    → objects_held_by new x ≡ list
this_list old new p x list lists same = lists x ∙ ap (λ b. cond b list (objects_held_by old x)) (eq-eqb x.0 p.0 same)

-- the list is changed twice
list_again : (old mid new : Holdings) (p : ActionId) (one two : List ObjId) → Lists old p one mid → Lists mid p two new
    → Lists old p two new
list_again old mid new p one two first second x =
    elim (cases_eq x.0 p.0) [
      | inl e ↦ this_list mid new p x two second e
          ∙ sym (ap (λ b. cond b two (objects_held_by old x)) (eq-eqb x.0 p.0 e))
      | inr n ↦ other_list mid new p x two second n ∙ other_list old mid p x one first n
          ∙ sym (ap (λ b. cond b two (objects_held_by old x)) (ne_eqb x.0 p.0 n))
    ]

-- one place less at most
one_place : (old new : Holdings) (p : ActionId) → TakesOnePlace old p new
    → holdings_room_of old p ≤ holdings_room_of new p + 1
one_place old new p rooms =
    subst (λ b. holdings_room_of old p ≤ holdings_room_of new p + cond b 1 0) (eq-eqb p.0 p.0 refl) (rooms p)

twice : (b : Bool) → b ≡ not (not b)
twice true = refl
twice false = refl

-- In the midst of the loop over the list of a: `of` is the list as it is read now, `place` is within it, and the list
-- of p has the objects before that.
module _ (old mid : Holdings) (a p : ActionId) (place : ℕ) (of : List ObjId)
    (lists : Lists old p (passed (take place (objects_held_by old a)) (objects_held_by old p)) mid)
    (other : a.0 ≢ p.0) (is : of ≡ objects_held_by mid a) (low : place < length (objects_held_by old a)) where
  abbrev none : ObjId
  none = record { 0 = 0 }

  abbrev held : List ObjId
  held = objects_held_by old a

  abbrev next : ObjId
  next = get_or held place none

  same : of ≡ held
  same = is ∙ other_list old mid p a _ lists other

  -- the next object is there
  next_there : (n : ℕ) → AreThere held n → (get_or of place none).0 < n
  next_there n there =
      subst (λ (l : List ObjId). (get_or l place none).0 < n) (sym same)
      (there next.0 (listed_at held place none low))

  -- it is new on the list of p, which has room for it, unless p holds it
  has_room : IsDistinct (λ (x y : ObjId). x.0 == y.0) held → (objects : List AtomicObject)
      → AreThere held (length objects) → ((o : ObjId) → o.0 < length objects → IsListedIfHeld objects old p o)
      → (d : AtomicObject) (has : Bool)
      → has ≡ (is_reader p (get_or objects (get_or of place none).0 d).cell.readers
      || has_version p (get_or objects (get_or of place none).0 d).cell.versions)
      → length held ≤ holdings_room_of mid p + place → HasListRoom mid p (get_or of place none) (not has)
  has_room once objects there listed d has has_is enough = record {
    listed =
        ap (λ (l : List ObjId). is_listed (objects_held_by mid p) (get_or l place none).0) same
        ∙ ap (λ (l : List ObjId). is_listed l next.0) (this_list old mid p p _ lists refl)
        ∙ listed_yet held (objects_held_by old p) place none once low
        ∙ listed next (there next.0 (listed_at held place none low)) d
        ∙ ap (λ (l : List ObjId). is_reader p (get_or objects (get_or l place none).0 d).cell.readers
        || has_version p (get_or objects (get_or l place none).0 d).cell.versions) (sym same)
        ∙ sym has_is ∙ twice has;
    room = λ is_new. omega (arith, enough, low);
  }

  -- behind it the list of p has one object more
  more_noted : (new : Holdings) → Lists mid p (noted (get_or of place none) (objects_held_by mid p)) new
      → Lists old p (passed (take (place + 1) held) (objects_held_by old p)) new
  more_noted new now =
      let more : noted (get_or of place none) (objects_held_by mid p)
      ≡ passed (take (place + 1) held) (objects_held_by old p) =
      ap (λ (l : List ObjId). noted (get_or l place none) (objects_held_by mid p)) same
      ∙ ap (noted next) (this_list old mid p p _ lists refl)
      ∙ sym (passed_more held (objects_held_by old p) place none low) in
      subst (λ (l : List ObjId). Lists old p l new) more (list_again old mid new p _ _ lists now)

pub bounds-objects-o : goal.bounds-objects-o
bounds-objects-o c =
    next_there c.args.holdings.now c.loop-place.holdings c.args.a c.args.parent c.loop-place.place c.of.result.now
    c.loop-place.invariant.lists c.requires.other c.of.ensures.list
    (rw c.of-place-end.ensures.list at c.loop-place-test.true) _ c.requires.there

pub note_if-requires : goal.note_if-requires
note_if-requires c =
    has_room c.args.holdings.now c.loop-place.holdings c.args.a c.args.parent c.loop-place.place c.of.result.now
    c.loop-place.invariant.lists c.requires.other c.of.ensures.list
    (rw c.of-place-end.ensures.list at c.loop-place-test.true) (rw c.of-place-end.ensures.list at c.of-place-end.ensures.once)
    c.args.objects.now c.requires.there c.requires.listed c.index-objects-o.result c.has_holder-is_new.result
    c.has_holder-is_new.ensures c.loop-place.invariant.room

pub loop-place-preserved : goal.loop-place-preserved
loop-place-preserved c =
    let low : c.loop-place.place < length (objects_held_by c.args.holdings.now c.args.a) =
    rw c.of-place-end.ensures.list at c.loop-place-test.true in
    let place = one_place c.loop-place.holdings c.note_if.new.holdings c.args.parent c.note_if.ensures.rooms in
    record {
      lists = more_noted c.args.holdings.now c.loop-place.holdings c.args.a c.args.parent c.loop-place.place
          c.of.result.now c.loop-place.invariant.lists c.requires.other c.of.ensures.list low c.note_if.new.holdings
          c.note_if.ensures.list;
      room = omega (arith, c.loop-place.invariant.room, place);
      low = omega (arith, low);
    }
