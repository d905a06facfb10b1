-- The objects that an action has written, sorted, are what its commit would leave.
use Rattle.std.proofs.Common.{Bool, Less, List, None, Option, Some, [], ap, arith, cond, eqb, false, get_or, inl, inr}
use Rattle.std.proofs.Common.{length, map, refl, subst, suc, sym, true, zero, ℕ, ◌+◌, ◌<◌, ◌&&◌, ◌∙◌, ◌∷◌, ◌≡◌, ◌||◌}
use Rattle.std.proofs.lemmas.Bool.{and_parts, cases_Bool, cases_eq, ne_eqb, Decides.nat_tests}
use Rattle.std.proofs.lemmas.List.Sorted.{IsNonDecreasingBy-from_sort, list_any-IsPermutation}
use Rattle.std.proofs.lemmas.Map.Keys.{IsDistinct-IsPermutation, IsDistinct-cons, IsDistinct-head, IsDistinct-tail}
use Rattle.std.proofs.lemmas.Map.Keys.{IsStrictlyIncreasing-from_distinct, IsStrictlyIncreasing-from_sorted}
use Rattle.std.{proofs.lemmas.Map.Keys.sorted_from_strictly_increasing, specs.List.{AllByRecursion, IsDistinct}}
use Rattle.std.specs.{List.{list_any, Sorted.{IsPermutation, IsSorted, IsStrictlySortedBy}}, Ordering.nat_cmp}
use Rattle.std.specs.Prelude.{slice_index_or}
use Rattle.argus_actions.specs.{Rows.is_live_at, Tree.Tree, declared.action_id.ActionId.ActionId}
use Rattle.argus_contents.specs.{Content.PlainContent, declared.obj_id.ObjId.ObjId}
use Rattle.argus_entries.specs.Entry.{PlainEntry}
use Rattle.argus_core.specs.{StateRefinement.StateRefinesJournal, GuardianState.{StateInvariant, journal_view_of}}
use Rattle.argus_core.specs.{Effect.{effect_if_live, effect_of, version_in, written_in}, Moving.is_listed}
use Rattle.argus_core.specs.declared.engine.atomic_object.AtomicObject.{AtomicObject}
use Rattle.argus_core.{specs.declared.engine.guardian_state.GuardianState.GuardianState, proofs.Begun.kept_orderly}
use Rattle.argus_journal.specs.{Entries.entries, Events.history, LegalJournal.{entries_in, opening_in}, Opening.Opening}
use Rattle.argus_journal.{specs.{Opening.model_opening, JournalFacts.{visible_to, written_by}}, proofs.Fitting.nothing}
use Rattle.argus_journal.proofs.Legal.{lawful}
use Rattle.argus_refinement.proofs.{CellCommits.seen_at, TreeAnswers.live_is}
use Rattle.argus_model.{specs.{Holders.writers, Numbers.contains, Status.is_live, Work.work}, proofs.Bools.eqb_sym}
use Rattle.argus_model.proofs.{Commits.written_are_held, Effects.written-IsRising, Numbers.{IsRising, contains_first}}
use Rattle.argus_model.proofs.Numbers.{rising_same}
use Rattle.argus_objects.specs.{Holdings.objects_held_by, CellChanges.has_version, declared.holdings.Holdings.Holdings}
use Rattle.argus_contents.specs.Shape as shape
use Rattle.argus_contents.specs.Ty as ty

contains_any : (xs : List ℕ) (x : ℕ) → contains xs x ≡ list_any (λ y. eqb x y) xs
contains_any [] x = refl
contains_any (y ∷ ys) x = ap (λ b. eqb x y || b) (contains_any ys x)

-- functions that agree on the members of a list
map_where : {X : Type 0} (f g : ℕ → X) (xs : List ℕ) → ((x : ℕ) → contains xs x ≡ true → f x ≡ g x)
    → map f xs ≡ map g xs
map_where f g [] same = refl
map_where f g (x ∷ xs) same = grind (arith, nat_tests, contains_first, map_where f g xs)

-- an object, to stand where there is none
pub any_object : AtomicObject
any_object = record {
  shape = shape.arr ty.null;
  cell = record { base = None; readers = []; versions = []; reader_room = 0; version_room = 0 };
}

-- what stands in a list is a member
contains_at : (xs : List ℕ) (i d : ℕ) → i < length xs → contains xs (get_or xs i d) ≡ true
contains_at [] i d lt = absurd (omega arith)
contains_at (x ∷ xs) zero d lt = contains_first x xs
contains_at (x ∷ xs) (suc i) d lt = grind (arith, nat_tests, contains_at xs i d)

-- one number compares as less than another
less : (x y : ℕ) → nat_cmp x y ≡ Less → x < y
unfolding IsStrictlySortedBy
less x y e = IsStrictlyIncreasing-from_sorted (x ∷ y ∷ []) ((e, tt), (tt, tt)) 0 (omega arith)

-- numbers each below all later ones
rising_from : (xs : List ℕ) → IsStrictlySortedBy nat_cmp xs → IsRising xs
unfolding IsStrictlySortedBy
rising_from [] s = tt
rising_from (x ∷ xs) s = (λ y m. above x xs y s.0 m, rising_from xs s.1)
  where
    above : (x : ℕ) (xs : List ℕ) (y : ℕ) → AllByRecursion (λ y. nat_cmp x y ≡ Less) xs → contains xs y ≡ true → x < y
    above x [] y all m = nothing m
    above x (z ∷ zs) y all m =
        elim (cases_eq y z) [
          | inl e ↦ subst (λ n. x < n) (sym e) (less x z all.0)
          | inr n ↦ above x zs y all.1 (sym (ap (λ b. b || contains zs y) (ne_eqb y z n)) ∙ m)
        ]

module _ (a : ActionId) (objects : List AtomicObject) (d : AtomicObject) where
  contains_written_in : (list : List ObjId) (o : ℕ)
      → contains (written_in a objects d list) o
      ≡ (is_listed list o && has_version a (slice_index_or objects o d).cell.versions)
  contains_written_in [] o = refl
  contains_written_in (x ∷ list) o = grind (arith, nat_tests, contains_written_in list o)

  -- what differs from a number on the list differs from what was written of it
  written_apart : (n : ℕ) (list : List ObjId) → AllByRecursion (λ (y : ObjId). eqb n y.0 ≡ false) list
      → AllByRecursion (λ m. eqb n m ≡ false) (written_in a objects d list)
  written_apart n [] all = tt
  written_apart n (x ∷ list) all = grind (arith, nat_tests, written_apart n list all.1)

  written_distinct : (list : List ObjId) → IsDistinct (λ (x y : ObjId). eqb x.0 y.0) list
      → IsDistinct eqb (written_in a objects d list)
  unfolding IsDistinct
  written_distinct [] once = once
  written_distinct (x ∷ list) once =
      let e = λ (x y : ObjId). eqb x.0 y.0 in
      let ih = written_distinct list (IsDistinct-tail e x list once) in
      elim (cases_Bool (has_version a (slice_index_or objects x.0 d).cell.versions)) [
        | inl q ↦ rw q (IsDistinct-cons eqb x.0 (written_in a objects d list)
            (written_apart x.0 list (IsDistinct-head e x list once)) ih)
        | inr q ↦ rw q ih
      ]

module _ (t : Tree) (objects : List AtomicObject) (holdings : Holdings) (s : Opening) (j : List PlainEntry)
    (k : StateRefinesJournal t objects holdings s j) (a : ActionId) (d : AtomicObject) where
  -- an object on the list of which there is a version is one that the action holds for writing
  member : (o : ℕ)
      → (is_listed (objects_held_by holdings a) o && has_version a (slice_index_or objects o d).cell.versions)
      ≡ contains (writers entries (history s j) o) (a.0 + 1)
  member o = grind (arith, nat_tests)

  module _ (live : is_live (history s j) (a.0 + 1) ≡ true)
      (once : IsDistinct (λ (x y : ObjId). eqb x.0 y.0) (objects_held_by holdings a))
      (xs : List ℕ) (moved : IsPermutation (written_in a objects d (objects_held_by holdings a)) xs)
      (sorted : IsSorted nat_cmp xs) where
    -- a number is found exactly if its object is on the list and has a version of the action
    listed_is : (o : ℕ) → contains xs o
        ≡ (is_listed (objects_held_by holdings a) o && has_version a (slice_index_or objects o d).cell.versions)
    listed_is o =
        contains_any xs o
        ∙ sym (list_any-IsPermutation (λ y. eqb o y) (written_in a objects d (objects_held_by holdings a)) xs moved)
        ∙ sym (contains_any (written_in a objects d (objects_held_by holdings a)) o)
        ∙ contains_written_in a objects d (objects_held_by holdings a) o

    member_is : (o : ℕ) → contains xs o ≡ contains (written_by s j a.0) o
    member_is o =
        listed_is o ∙ member o
        ∙ sym (written_are_held entries (model_opening s) (history s j) (a.0 + 1) o (lawful s j k.legal) live)

    pub sorted_is : xs ≡ written_by s j a.0
    sorted_is =
        rising_same xs (written_by s j a.0)
        (rising_from xs (sorted_from_strictly_increasing xs
        (IsStrictlyIncreasing-from_distinct xs (IsNonDecreasingBy-from_sort (λ n. n) xs sorted)
        (IsDistinct-IsPermutation eqb flips (written_in a objects d (objects_held_by holdings a)) xs moved
        (written_distinct a objects d (objects_held_by holdings a) once)))))
        (written-IsRising entries (work (history s j) (a.0 + 1)))
        member_is
      where
        flips : (x y : ℕ) → eqb x y ≡ eqb y x
        flips x y = eqb_sym x y

    -- each such number is that of an object
    pub sorted_there : (o : ℕ) → contains xs o ≡ true → o < length objects
    sorted_there o m = k.state.there a o (and_parts _ _ (sym (listed_is o) ∙ m)).0

    all_there : (i n : ℕ) → i < length xs → get_or xs i n < length objects
    all_there i n low = sorted_there (get_or xs i n) (contains_at xs i n low)

    effect_is : map {B = ℕ × Option PlainContent} (λ o. (o, version_in a objects d o)) xs
        ≡ map (λ o. (o, visible_to s j a.0 o)) (written_by s j a.0)
    effect_is =
        grind (arith, nat_tests, map_where, sorted_is, sorted_there, written_are_held, lawful, member_is, seen_at)

-- what the tree says of the action decides whether there is an effect
pub effect_where : (g : GuardianState) (k : StateInvariant g) (a : ActionId) (live : Bool)
    → live ≡ is_live_at g.tree.folded g.tree.rows a.0
    → effect_if_live (journal_view_of g) a.0 ≡ cond live (Some (effect_of (journal_view_of g) a.0)) None
effect_where g k a live e =
    ap (λ b. cond b (Some (effect_of (journal_view_of g) a.0)) None)
    (live_is g.tree (history (opening_in g.journal) (entries_in g.journal)) k.state.actions
    (kept_orderly k) a.0 ∙ sym e)

-- the numbers that were found on the list of a live action, once they are sorted
module _ (g : GuardianState) (k : StateInvariant g) (a : ActionId)
    (live : true ≡ is_live_at g.tree.folded g.tree.rows a.0)
    (once : IsDistinct (λ (x y : ObjId). eqb x.0 y.0) (objects_held_by g.holdings a)) (found xs : List ℕ)
    (is : found ≡ written_in a g.objects.items any_object (objects_held_by g.holdings a))
    (moved : IsPermutation found xs) (sorted : IsSorted nat_cmp xs) where
  abbrev s : Opening
  s = opening_in g.journal

  abbrev j : List PlainEntry
  j = entries_in g.journal

  lives : is_live (history s j) (a.0 + 1) ≡ true
  lives = live_is g.tree (history s j) k.state.actions (kept_orderly k) a.0 ∙ sym live

  pub found_there : (i n : ℕ) → i < length xs → get_or xs i n < length g.objects.items
  found_there = all_there _ _ _ _ _ k a any_object lives once xs (subst (λ ys. IsPermutation ys xs) is moved) sorted

  pub found_effect : Some (map {B = ℕ × Option PlainContent} (λ o. (o, version_in a g.objects.items any_object o)) xs)
      ≡ effect_if_live (journal_view_of g) a.0
  found_effect =
      ap Some (effect_is _ _ _ _ _ k a any_object lives once xs
      (subst (λ ys. IsPermutation ys xs) is moved) sorted)
      ∙ sym (effect_where g k a true live)
