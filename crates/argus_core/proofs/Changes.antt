-- Objects on a list are changed one after another.
use Rattle.std.proofs.Common.{Bool, List, ap, arith, false, length, refl, subst, sym, true, suc, take, get_or, set}
use Rattle.std.proofs.{Common.{zero, ℕ, ◌+◌, ◌<◌, ◌≤◌, ◌∙◌, ◌≡◌, ◌≢◌, eqb, ◌||◌}, lemmas.Bool.or_from}
use Rattle.std.proofs.lemmas.{Bool.Decides.nat_tests, Grind.get_or-set_at, List.{get_or-set_other, length-set}}
use Rattle.std.proofs.lemmas.{List.{Folds.{list_any_at, list_any_more}, get_or_default}, Map.Keys.apart_from_distinct}
use Rattle.std.specs.List.{IsDistinct}
use Rattle.argus_contents.specs.declared.obj_id.ObjId.{ObjId}
use Rattle.argus_actions.specs.Tree.{Tree}
use Rattle.argus_core.specs.Moving.{AreChanged, CanVisit, ChangedIf, IsChanged, is_listed}
use Rattle.argus_core.specs.declared.engine.atomic_object.AtomicObject.{AtomicObject}
use Rattle.argus_objects.specs.{Object.Object, Rules.is_lawful}

-- the item of this place is on the list
pub listed_at : (list : List ObjId) (place : ℕ) (default : ObjId) → place < length list
    → is_listed list (get_or list place default).0 ≡ true
listed_at list place default comes = grind (arith, nat_tests, list_any_at)

-- where none is listed twice, the item of this place doesn't stand before it
pub not_before : (list : List ObjId) (place : ℕ) (default : ObjId) → IsDistinct (λ x y. eqb x.0 y.0) list
    → place < length list → (before : ℕ) → before ≤ place
    → is_listed (take before list) (get_or list place default).0 ≡ false
not_before list place default once comes zero low = refl
not_before list place default once comes (suc before) low =
    let number : ℕ = (get_or list place default).0 in
    let next : before + 1 ≡ suc before = omega arith in
    let earlier = not_before list place default once comes before (omega arith) in
    let apart = apart_from_distinct (λ x y. eqb x.0 y.0) list before place default once (omega arith) comes in
    subst (λ n. is_listed (take n list) number ≡ false) next
    (list_any_more (λ x. eqb x.0 number) list before default (omega arith)
    ∙ or_from (is_listed (take before list) number) (eqb (get_or list before default).0 number) earlier apart)

changed_here : (R : Object → Object → Type 0) (b : Bool) (old new : Object) → b ≡ true → R old new
    → ChangedIf b R old new
changed_here R b old new is changed = subst (λ b. ChangedIf b R old new) (sym is) changed

unchanged : (R : Object → Object → Type 0) (b : Bool) (old new : Object) → b ≡ false → ChangedIf b R old new → new ≡ old
unchanged R b old new is changed = subst (λ b. ChangedIf b R old new) is changed

-- the next object of the list is there
pub is_within : {t : Tree} {old : List AtomicObject} {list : List ObjId} → CanVisit t old list
    → {R : Object → Object → Type 0} (place : ℕ) (default : ObjId) (now : List AtomicObject) → place < length list
    → AreChanged R (take place list) old now → (get_or list place default).0 < length now
is_within {list = list} ready place default now comes so_far =
    let number = (get_or list place default).0 in
    subst (λ n. number < n) (sym so_far.count) (ready.there number (listed_at list place default comes))

-- In the midst of a loop over the list: those before this place are changed so far, and the next object is `object`.
module _ {t : Tree} {old : List AtomicObject} {list : List ObjId} (ready : CanVisit t old list)
    (R : Object → Object → Type 0) (place : ℕ) (default : ObjId) (now : List AtomicObject) (object : AtomicObject)
    (comes : place < length list) (so_far : AreChanged R (take place list) old now) where
  abbrev number : ℕ
  number = (get_or list place default).0

  was_there : number < length old
  was_there = ready.there number (listed_at list place default comes)

  within : number < length now
  within = is_within ready place default now comes so_far

  -- the next object hasn't been changed yet
  same_yet : (get_or now number object).cell ≡ (get_or old number object).cell
  same_yet = grind (arith, nat_tests, unchanged, not_before, was_there)

  -- so it is lawful, as all were at first
  pub lawful_yet : is_lawful t (get_or now number object).cell ≡ true
  lawful_yet = ap (is_lawful t) same_yet ∙ ready.lawful number object was_there

  module _ (new : Object) (changed : R (get_or now number object).cell new) where
    abbrev put : AtomicObject
    put = record { shape = (get_or now number object).shape; cell = new }

    abbrev after : List AtomicObject
    after = set now number put

    listed_now : (o : ℕ) → is_listed (take (place + 1) list) o ≡ (is_listed (take place list) o || eqb number o)
    listed_now o = list_any_more (λ x. eqb x.0 o) list place default comes

    changed_there : (o : ℕ) (other : AtomicObject) → number ≡ o → IsChanged R (take (place + 1) list) old after o other
    changed_there o other same =
        grind (arith, nat_tests, get_or-set_at, within, get_or_default, was_there, same_yet, listed_now, changed_here)

    as_before : (o : ℕ) (other : AtomicObject) → o < length old → number ≢ o
        → IsChanged R (take (place + 1) list) old after o other
    as_before o other low another = grind (arith, nat_tests, get_or-set_other, listed_now)

    -- once the next object is changed, those up to it are
    pub more_changed : AreChanged R (take (place + 1) list) old
        (set now number (record { shape = (get_or now number object).shape; cell = new }))
    more_changed = grind (arith, nat_tests, length-set, changed_there, as_before)
