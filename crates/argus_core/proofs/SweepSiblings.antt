-- The walk over the siblings of an action: which of them were ended so far, and how many live ones are left.
use Rattle.std.proofs.Common.{Bool, List, None, Option, Some, ap, arith, false, sym, true, ℕ, ◌+◌, ◌-◌, ◌<◌, ◌≤◌, ◌∙◌}
use Rattle.std.proofs.{Common.{◌≡◌, ◌||◌}, lemmas.{List.Elements.filter_agree, Bool.Decides.nat_tests}}
use Rattle.std.{proofs.Math.Bool.or-false, specs.Prelude.{nat_le, not, ◌&&◌, ◌==◌}}
use Rattle.argus_actions.proofs.{Counted.count, Marks.one, RowsLemmas.row_begun, Newest.{came_row, newest_where_at}}
use Rattle.argus_actions.proofs.{Newest.{newest_where_most, newest_where_no}, Siblings.{comes_under, others_first}}
use Rattle.argus_actions.{proofs.Siblings.{others_past, others_step}, specs.{Row.{Row, is_begun_under}, Rows.numbered}}
use Rattle.argus_actions.specs.Rows.{under_at, has_ancestor, is_above, is_live_at, newest_child_below}
use Rattle.argus_actions.specs.Tree.{older_sibling_of, Tree, is_ancestor, is_live_sibling, live_children, named}
use Rattle.argus_actions.specs.{Tree.{newest_child_of, next}, declared.action_id.ActionId.ActionId}
use Rattle.argus_core.{proofs.Sweeps.{all_both, named_none, named_some, none_ended, steps_left}, specs.Moving.AreLawful}
use Rattle.argus_core.specs.{Sweeping.AreEnded, declared.engine.atomic_object.AtomicObject.AtomicObject}
use Rattle.argus_objects.specs.declared.holdings.Holdings.{Holdings}
use Rattle.argus_refinement.proofs.TreeRows.{ancestor_found, ancestor_from}
use Rattle.argus_model.proofs.Bools.{and_all}

-- tests that agree
has_same : (p q : ℕ → Bool) → ((x : ℕ) → p x ≡ q x) → (n : ℕ) (rows : List Row) (y : ℕ)
    → has_ancestor p n rows y ≡ has_ancestor q n rows y
has_same p q same n rows y = grind (arith, nat_tests, ancestor_found, ancestor_from)

-- an ancestor passes a test, or is this one
has_either : (p : ℕ → Bool) (c n : ℕ) (rows : List Row) (y : ℕ)
    → has_ancestor (λ x. p x || c == x) n rows y ≡ (has_ancestor p n rows y || is_above n rows c y)
has_either p c n rows y = grind (arith, nat_tests, ancestor_found, ancestor_from)

-- no ancestor passes a test that nothing passes
has_none : (p : ℕ → Bool) → ((x : ℕ) → p x ≡ false) → (n : ℕ) (rows : List Row) (y : ℕ)
    → has_ancestor p n rows y ≡ false
has_none p none n rows y = grind (arith, nat_tests, ancestor_found)

-- the same ending, told by another test
all_same : {t : Tree} {p : ℕ → Bool} (q : ℕ → Bool) → ((x : ℕ) → q x ≡ p x) → {old new : List AtomicObject}
    {held held' : Holdings} → AreEnded t p old new held held' → AreEnded t q old new held held'
all_same {p = p} q same {old} {held = held} k = grind (arith, nat_tests, filter_agree)

-- a live sibling whose number is the bound or greater
abbrev pub is_seen : Tree → ℕ → ℕ → ℕ → Bool
is_seen t a bound x = is_live_sibling t a x && nat_le bound x

-- in the midst of the loop: the siblings from the bound on were ended, the next is the newest below it, and so many
-- live ones are below it
pub record IsSwung (t : Tree) (a u : ℕ) (old new : List AtomicObject) (held held' : Holdings) (left : ℕ)
    (child : Option ActionId) : Type 0 where
  pub bound : ℕ
  pub next_child : child ≡ named (newest_child_below t.folded t.rows u bound)
  pub ended : AreEnded t (has_ancestor (is_seen t a bound) t.folded t.rows) old new held held'
  pub others : left ≡ count (is_live_sibling t a) bound

module _ (t : Tree) (a u : ℕ) (under : under_at t.folded t.rows a ≡ Some u) where
  -- a live sibling was begun under the same action
  sibling_row : (x : ℕ) → is_live_sibling t a x ≡ true → (row : Row)
      × ((numbered t.folded t.rows x ≡ Some row) × (is_begun_under u row.origin ≡ true))
  sibling_row x e = grind (arith, nat_tests, came_row)

  -- the next older one
  older_is : (bound c : ℕ) → newest_child_below t.folded t.rows u bound ≡ Some c
      → older_sibling_of t c ≡ named (newest_child_below t.folded t.rows u c)
  older_is bound c e = grind (arith, nat_tests, newest_where_at, comes_under)

  -- one more is seen
  seen_one : (lx lc : Bool) (c x bound : ℕ) → (x ≡ c → lx ≡ lc) → c < bound → (lx ≡ true → x < bound → x ≤ c)
      → (lx && nat_le c x) ≡ ((lx && nat_le bound x) || (lc && c == x))
  seen_one lx lc c x bound same below most = grind (arith, nat_tests)

  seen_more : (bound c : ℕ) → newest_child_below t.folded t.rows u bound ≡ Some c → (x : ℕ)
      → is_seen t a c x ≡ (is_seen t a bound x || (is_live_sibling t a c && c == x))
  seen_more bound c e x =
      let at = newest_where_at (is_begun_under u) t.folded t.rows bound c e in
      seen_one (is_live_sibling t a x) (is_live_sibling t a c) c x bound (ap (is_live_sibling t a)) at.1.1.0
      (λ live below. let r = sibling_row x live in
      newest_where_most (is_begun_under u) t.folded t.rows bound c x r.0 e r.1.0 r.1.1 below)

  -- of the live actions that were begun under the same one all but one are its live siblings
  pub first_left : is_live_at t.folded t.rows a ≡ true → live_children t u ≡ 1 + count (is_live_sibling t a) (next t)
  first_left live = others_first t.folded t.rows a u under live

  left_next : (bound c : ℕ) → newest_child_below t.folded t.rows u bound ≡ Some c
      → count (is_live_sibling t a) bound ≡ one (is_live_sibling t a c) + count (is_live_sibling t a) c
  left_next bound c e = others_step t.folded t.rows a u under bound c e

  module _ (old new : List AtomicObject) (held held' : Holdings) (left : ℕ) where
    -- before the walk none is seen
    none_seen : (x : ℕ) → is_seen t a (next t) x ≡ false
    none_seen x = grind (arith, nat_tests, sibling_row x, row_begun t.folded t.rows x)

    -- before the first
    pub swing_start : (child : Option ActionId) → child ≡ newest_child_of t u → AreLawful t old
        → left ≡ count (is_live_sibling t a) (next t) → IsSwung t a u old old held held left child
    swing_start child is l others =
        let ended = none_ended t (has_ancestor (is_seen t a (next t)) t.folded t.rows)
        (has_none (is_seen t a (next t)) none_seen t.folded t.rows) old held l in
        grind (arith, nat_tests, ended)

    -- the sibling that comes next has begun
    pub swing_next : (c : ActionId) → IsSwung t a u old new held held' left (Some c) → (c.0 < next t) × (t.folded ≤ c.0)
    swing_next c k = grind (arith, nat_tests, newest_where_at)

    -- whether it is a live sibling
    pub sibling_here : (c : ActionId) → IsSwung t a u old new held held' left (Some c)
        → is_live_sibling t a c.0 ≡ (is_live_at t.folded t.rows c.0 && not (c.0 == a))
    sibling_here c k = grind (arith, nat_tests, newest_where_at, and_all)

    -- the steps get fewer
    pub swing_fewer : (c : ActionId) → IsSwung t a u old new held held' left (Some c)
        → steps_left (older_sibling_of t c.0) < c.0 + 1
    swing_fewer c k = grind (arith, nat_tests, older_is, newest_where_at)

    -- a live sibling was ended
    pub swing_step : (c : ActionId) (more : List AtomicObject) (held2 : Holdings) → is_live_sibling t a c.0 ≡ true
        → IsSwung t a u old new held held' left (Some c) → AreEnded t (is_ancestor t c.0) new more held' held2
        → IsSwung t a u old more held held2 (left - 1) (older_sibling_of t c.0)
    swing_step c more held2 live k m =
        let e = named_some _ c k.next_child in
        record {
          bound = c.0;
          next_child = older_is k.bound c.0 e;
          ended =
              all_both (has_ancestor (is_seen t a c.0) t.folded t.rows)
              (λ y. has_same (is_seen t a c.0) (λ x. is_seen t a k.bound x || c.0 == x)
              (λ x. seen_more k.bound c.0 e x ∙ ap (λ b. is_seen t a k.bound x || (b && c.0 == x)) live)
              t.folded t.rows y ∙ has_either (is_seen t a k.bound) c.0 t.folded t.rows y) k.ended m;
          others =
              let one_more : left ≡ 1 + count (is_live_sibling t a) c.0 =
              k.others ∙ left_next k.bound c.0 e ∙ ap (λ b. one b + count (is_live_sibling t a) c.0) live in
              omega arith;
        }

    -- another one is passed over
    pub swing_pass : (c : ActionId) → is_live_sibling t a c.0 ≡ false → IsSwung t a u old new held held' left (Some c)
        → IsSwung t a u old new held held' left (older_sibling_of t c.0)
    swing_pass c off k =
        let e = named_some _ c k.next_child in
        record {
          bound = c.0;
          next_child = older_is k.bound c.0 e;
          ended =
              all_same (has_ancestor (is_seen t a c.0) t.folded t.rows)
              (has_same (is_seen t a c.0) (is_seen t a k.bound)
              (λ x. seen_more k.bound c.0 e x ∙ ap (λ b. is_seen t a k.bound x || (b && c.0 == x)) off
              ∙ or-false (is_seen t a k.bound x)) t.folded t.rows) k.ended;
          others =
              let no_more : left ≡ 0 + count (is_live_sibling t a) c.0 =
              k.others ∙ left_next k.bound c.0 e ∙ ap (λ b. one b + count (is_live_sibling t a) c.0) off in
              omega arith;
        }

    all_seen : (bound : ℕ) → ((x : ℕ) → is_live_sibling t a x ≡ true → bound ≤ x)
        → AreEnded t (has_ancestor (is_seen t a bound) t.folded t.rows) old new held held'
        → AreEnded t (has_ancestor (is_live_sibling t a) t.folded t.rows) old new held held'
    all_seen bound past ended = grind (arith, nat_tests, all_same, has_same)

    -- no sibling is left
    pub swing_end : IsSwung t a u old new held held' left None
        → AreEnded t (has_ancestor (is_live_sibling t a) t.folded t.rows) old new held held'
    swing_end k =
        all_seen k.bound (λ x live. let r = sibling_row x live in
        newest_where_no (is_begun_under u) t.folded t.rows k.bound x r.0
        (named_none _ k.next_child) r.1.0 r.1.1) k.ended

    -- no live one is left
    pub swing_done : (child : Option ActionId) → left ≡ 0 → IsSwung t a u old new held held' left child
        → AreEnded t (has_ancestor (is_live_sibling t a) t.folded t.rows) old new held held'
    swing_done child none k =
        all_seen k.bound (λ x live. others_past t.folded t.rows a u under k.bound x (sym k.others ∙ none) live) k.ended
