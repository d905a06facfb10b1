-- Actions that were ended, in all objects and lists; and the walk over those under an action: which were ended so far.
use Rattle.std.proofs.Common.{Bool, List, None, Option, Some, [], ap, arith, cond, false, length, refl, subst, sym}
use Rattle.std.proofs.{Common.{true, ℕ, ◌+◌, ◌<◌, ◌≤◌, ◌∙◌, ◌∷◌, ◌≡◌, eqb, ◌||◌}, lemmas.Bool.or_right}
use Rattle.std.{proofs.lemmas.Bool.Decides.nat_tests, specs.{List.filter, Prelude.{not, slice_index_or, ◌&&◌, ◌==◌}}}
use Rattle.argus_actions.proofs.{RowsLemmas.{is_above_low, is_above_past, numbered_low}, Walks.{via_unbegun, above_via}}
use Rattle.argus_actions.proofs.Walks.{is_via, newest_sub_is, via_all, via_low, via_more, via_past}
use Rattle.argus_actions.{proofs.Newest.newest_where_at, specs.{Nodes.AreLinked, Rows.{is_live_at, newest_below}}}
use Rattle.argus_actions.specs.{Row.is_live, declared.{status.Status.Status, action_id.ActionId.ActionId}, Tree.Tree}
use Rattle.argus_actions.specs.Tree.{is_ancestor, named, newest_sub_of, next, older_sub_of, status_of}
use Rattle.argus_contents.specs.declared.obj_id.ObjId.{ObjId}
use Rattle.argus_core.specs.{Moving.{AreChanged, AreLawful, IsEnded, is_listed}, Sweeping.{AreAllThere, AreCovered}}
use Rattle.argus_core.specs.{Sweeping.{AreEnded, CanSweep}, declared.engine.atomic_object.AtomicObject.AtomicObject}
use Rattle.argus_objects.{proofs.Later.{filter_all, filter_twice}, specs.Holdings.{Lists, objects_held_by}}
use Rattle.argus_objects.specs.{CellChanges.{has_version, is_reader}, Object.{Object, PlainVersion}}
use Rattle.argus_objects.specs.declared.holdings.Holdings.{Holdings}
use Rattle.argus_refinement.proofs.CellLists.{has_filtered}

-- two endings, one after the other
pub ended_both : (t : Tree) (p q both : ℕ → Bool) → ((x : ℕ) → both x ≡ (p x || q x)) → (a b c : Object)
    → IsEnded t p a b → IsEnded t q b c → IsEnded t both a c
ended_both t p q both split a b c f g = grind (arith, nat_tests, filter_twice)

-- nothing is on an empty list, and what stays stays
cleared_less : (b : Bool) (list : List ObjId) (o : ℕ) → is_listed (cond b [] list) o ≡ true → is_listed list o ≡ true
cleared_less b list o e = grind (arith, nat_tests)

-- nothing was ended yet
pub none_ended : (t : Tree) (ended : ℕ → Bool) → ((x : ℕ) → ended x ≡ false)
    → (objects : List AtomicObject) (held : Holdings) → AreLawful t objects → AreEnded t ended objects objects held held
none_ended t ended none objects held l = grind (arith, nat_tests, filter_all)

-- two endings of all objects, one after the other
pub all_both : {t : Tree} {p q : ℕ → Bool} (both : ℕ → Bool) → ((x : ℕ) → both x ≡ (p x || q x))
    → {old mid new : List AtomicObject} {held hm hn : Holdings} → AreEnded t p old mid held hm
    → AreEnded t q mid new hm hn → AreEnded t both old new held hn
all_both {t} {p} {q} both split {old} {mid} {new} {held} {hm} {hn} k m = record {
  count = m.count ∙ k.count;
  shape = λ o d lt. m.shape o d (subst (λ n. o < n) (sym k.count) lt) ∙ k.shape o d lt;
  cell = λ o d lt.
      ended_both t p q both split (slice_index_or old o d).cell (slice_index_or mid o d).cell
      (slice_index_or new o d).cell (k.cell o d lt)
      (m.cell o d (subst (λ n. o < n) (sym k.count) lt));
  lists = λ x. grind (arith, nat_tests, m.lists x, k.lists x, split x.0);
}

module _ {t : Tree} {ended : ℕ → Bool} {old new : List AtomicObject} {held held' : Holdings}
    (k : AreEnded t ended old new held held') where
  -- all objects stay lawful
  ended_lawful : AreLawful t new
  ended_lawful = λ o d lt. (k.cell o d (subst (λ n. o < n) k.count lt)).lawful

  -- what is on a list is there
  there_less : AreAllThere held (length old) → AreAllThere held' (length new)
  there_less there = grind (arith, nat_tests, cleared_less)

-- a reader after an ending was one before, and isn't ended
reader_filtered : (ended : ℕ → Bool) (x : ActionId) (rs : List ActionId)
    → is_reader x (filter (λ y. not (ended y.0)) rs) ≡ (is_reader x rs && not (ended x.0))
reader_filtered ended x [] = refl
reader_filtered ended x (y ∷ rs) = grind (arith, nat_tests, reader_filtered ended x rs)

-- and so is any holder
held_before : (t : Tree) (ended : ℕ → Bool) (was now : Object) (x : ActionId) → IsEnded t ended was now
    → (is_reader x now.readers || has_version x now.versions) ≡ true
    → ((is_reader x was.readers || has_version x was.versions) ≡ true) × (ended x.0 ≡ false)
held_before t ended was now x c e =
    grind (arith, nat_tests, reader_filtered ended x was.readers, has_filtered (λ n. not (ended n)) was.versions x)

-- who holds an object after an ending has it on its list
covered_more : {t : Tree} {ended : ℕ → Bool} {old new : List AtomicObject} {held held' : Holdings}
    → AreEnded t ended old new held held' → AreCovered old held → AreCovered new held'
covered_more {t} {ended} {old} {new} {held} k cover = λ x o d lt e.
    let low : o < length old = subst (λ n. o < n) k.count lt in
    let h = held_before t ended _ _ x (k.cell o d low) e in
    ap (λ list. is_listed list o) (k.lists x ∙ ap (λ b. cond b [] (objects_held_by held x)) h.1) ∙ cover x o d low h.0

-- and so the others can be swept
pub can_sweep_more : {t : Tree} {ended : ℕ → Bool} {old new : List AtomicObject} {held held' : Holdings}
    → AreEnded t ended old new held held' → CanSweep t old held → CanSweep t new held'
can_sweep_more k ready = record {
  linked = ready.linked;
  lawful = ended_lawful k;
  there = there_less k ready.there;
  covered = covered_more k ready.covered;
}

-- readers and versions of whom none is ended stay
readers_spared : (ended : ℕ → Bool) (rs : List ActionId) → ((x : ActionId) → is_reader x rs ≡ true → ended x.0 ≡ false)
    → filter (λ x. not (ended x.0)) rs ≡ rs
readers_spared ended [] f = refl
readers_spared ended (y ∷ rs) f =
    grind (arith, nat_tests, readers_spared ended rs (λ x e. f x (or_right (eqb y.0 x.0) (is_reader x rs) e)))

versions_spared : (ended : ℕ → Bool) (vs : List PlainVersion)
    → ((x : ActionId) → has_version x vs ≡ true → ended x.0 ≡ false) → filter (λ v. not (ended v.holder.0)) vs ≡ vs
versions_spared ended [] f = refl
versions_spared ended (v ∷ vs) f = grind (arith, nat_tests, versions_spared ended vs)

-- the action's own list is handled: it isn't a holder of the other objects
pub own_ended : (t : Tree) (a : ActionId) (old new : List AtomicObject) (held held' : Holdings)
    → AreChanged (IsEnded t (λ x. x == a.0)) (objects_held_by held a) old new → Lists held a [] held' → AreLawful t old
    → AreCovered old held → AreEnded t (λ x. x == a.0) old new held held'
own_ended t a old new held held' moved cleared l cover = grind (arith, nat_tests, readers_spared, versions_spared)

-- below the action, by one of the subactions that were handled
module _ (t : Tree) (linked : AreLinked t.folded t.rows) (a : ℕ) where
  -- before the first subaction
  via_first : (x : ℕ) → is_via t.folded t.rows a (next t) x ≡ false
  via_first x = grind (arith, nat_tests, via_past, via_unbegun)

  -- one subaction more
  via_next : (bound c : ℕ) → newest_below t.folded t.rows a bound ≡ Some c → (x : ℕ)
      → is_via t.folded t.rows a c x ≡ (is_via t.folded t.rows a bound x || is_ancestor t c x)
  via_next bound c e x = grind (arith, nat_tests, via_low, is_above_low, via_more, via_unbegun, is_above_past)

  -- no subaction left: then comes the action itself
  via_end : a < next t → t.folded ≤ a → (bound : ℕ) → newest_below t.folded t.rows a bound ≡ None → (x : ℕ)
      → is_ancestor t a x ≡ (is_via t.folded t.rows a bound x || x == a)
  via_end begun held bound e x =
      let all = via_all t.folded t.rows a bound x linked e in
      let above = above_via t.folded t.rows a x linked in
      grind (arith, nat_tests, all, above, via_low, is_above_low, via_unbegun, is_above_past)

-- the subaction that comes next before this one
older_is : (t : Tree) (a bound c : ℕ) → AreLinked t.folded t.rows → newest_below t.folded t.rows a bound ≡ Some c
    → older_sub_of t c ≡ named (newest_below t.folded t.rows a c)
older_is t a bound c linked e = grind (arith, nat_tests, newest_where_at, newest_sub_is)

-- in the midst of the loop: all below the action by its subactions from the bound on were ended, and the next
-- subaction is the newest below it
pub record IsWalked (t : Tree) (a : ℕ) (old new : List AtomicObject) (held held' : Holdings)
    (sub : Option ActionId) : Type 0 where
  pub bound : ℕ
  pub next_sub : sub ≡ named (newest_below t.folded t.rows a bound)
  pub ended : AreEnded t (is_via t.folded t.rows a bound) old new held held'

-- a bound on the steps that are left
abbrev pub steps_left : Option ActionId → ℕ
steps_left None = 0
steps_left (Some a) = a.0 + 1

pub named_some : (o : Option ℕ) (x : ActionId) → Some x ≡ named o → o ≡ Some x.0
named_some o x e = grind (arith, nat_tests)

pub named_none : (o : Option ℕ) → None ≡ named o → o ≡ None
named_none o e = grind (arith, nat_tests)

-- before the first step
pub walk_start : (t : Tree) → AreLinked t.folded t.rows → (a : ℕ) (objects : List AtomicObject) (held : Holdings)
    (sub : Option ActionId) → sub ≡ newest_sub_of t a → AreLawful t objects
    → IsWalked t a objects objects held held sub
walk_start t linked a objects held sub is l =
    grind (arith, nat_tests, none_ended t (is_via t.folded t.rows a (next t)) (via_first t linked a) objects held l)

module _ (t : Tree) (linked : AreLinked t.folded t.rows) (a : ℕ) (old new : List AtomicObject)
    (held held' : Holdings) where
  -- the subaction that comes next is a newer action, and has begun
  pub walk_next : (below : ActionId) → IsWalked t a old new held held' (Some below)
      → (a < below.0) × (below.0 < next t) × (t.folded ≤ below.0)
  walk_next below k = grind (arith, nat_tests, newest_sub_is)

  -- the steps get fewer
  pub walk_fewer : (below : ActionId) → IsWalked t a old new held held' (Some below)
      → steps_left (older_sub_of t below.0) < below.0 + 1
  walk_fewer below k = grind (arith, nat_tests, older_is, newest_sub_is)

  -- one step more
  pub walk_step : (below : ActionId) (more : List AtomicObject) (held2 : Holdings)
      → IsWalked t a old new held held' (Some below) → AreEnded t (is_ancestor t below.0) new more held' held2
      → IsWalked t a old more held held2 (older_sub_of t below.0)
  walk_step below more held2 k m =
      let e = named_some _ below k.next_sub in
      let next = older_is t a k.bound below.0 linked e in
      let ended = all_both (is_via t.folded t.rows a below.0) (via_next t linked a k.bound below.0 e) k.ended m in
      grind (arith, nat_tests, next, ended)

  -- no subaction left, and then the action itself
  pub walk_end : a < next t → t.folded ≤ a → (last : List AtomicObject) (held2 : Holdings)
      → IsWalked t a old new held held' None → AreEnded t (λ x. x == a) new last held' held2
      → AreEnded t (is_ancestor t a) old last held held2
  walk_end begun low last held2 k m =
      all_both (is_ancestor t a) (via_end t linked a begun low k.bound (named_none _ k.next_sub)) k.ended m

-- a live status
abbrev pub has_live_status : Option Status → Bool
has_live_status None = false
has_live_status (Some s) = is_live s

-- an action is live where its status is
pub live_at_is : (t : Tree) (a : ℕ) → is_live_at t.folded t.rows a ≡ has_live_status (status_of t a)
live_at_is t a = grind (arith, nat_tests, numbered_low)
