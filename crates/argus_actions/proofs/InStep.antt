-- That each subaction is over no later than its parent, after each change of the rows.
use Rattle.std.proofs.Common.{◌≡◌, ℕ, ◌+◌, ◌<◌, ◌≤◌, Bool, true, false, cond, eqb, List, [], ◌∷◌, length, Some, subst}
use Rattle.std.proofs.{Common.{sym, ◌∙◌, ap, arith, inl, inr}, lemmas.Bool.{Decides.nat_tests, cases_eq, false≢true}}
use Rattle.argus_actions.specs.declared.{origin.Origin.{Origin, TheVariants.Sub}, status.Status.Status}
use Rattle.argus_actions.specs.{declared.status.Status.TheVariants.{Live, Committed, Aborted}, Nodes.IsBegunBetween}
use Rattle.argus_actions.specs.{Nodes.AreLinked, Row.{Row, is_live, may_follow, with_status}, Rows.{numbered, is_above}}
use Rattle.argus_actions.specs.Rows.{mark, is_live_at, is_live_under, has_ancestor, AreInStep}
use Rattle.argus_actions.proofs.RowsLemmas.{row_there, none_some, numbered_newest, numbered_older, row_begun}
use Rattle.argus_actions.proofs.{RowsLemmas.is_above_step, Marks.{numbered-mark, numbered-mark_none, origin_marked}}
use Rattle.argus_actions.proofs.{Ancestry.has_ancestor_step, Above.{ways, above_le}}

-- the row that a marked one was
unmarked : (n : ℕ) (which : ℕ → Bool) (s : Status) (rows : List Row) (a : ℕ) (row : Row)
    → numbered n (mark n which s rows) a ≡ Some row
    → (old : Row) × ((numbered n rows a ≡ Some old) × (row ≡ cond (which a) (with_status s old) old))
unmarked n which s rows a row at = grind (arith, nat_tests, numbered-mark_none, numbered-mark)

follows_aborted : (above sub : Status) → may_follow above sub ≡ true → may_follow above Aborted ≡ true
follows_aborted above sub e = grind (arith)

-- the rows with some Aborted, of each its subactions too
module _ (n : ℕ) (which : ℕ → Bool) (rows : List Row) (down : (a p : ℕ) (row : Row) → numbered n rows a ≡ Some row
    → row.origin ≡ Sub p → which p ≡ true → which a ≡ true)
    (before : AreInStep n rows) where
  pub in_step_aborted : AreInStep n (mark n which Aborted rows)
  in_step_aborted a p row above at is at_p =
      let sub = unmarked n which Aborted rows a row at in
      let top = unmarked n which Aborted rows p above at_p in
      let o : sub.0.origin ≡ Sub p =
      sym (origin_marked (which a) Aborted sub.0) ∙ ap (λ (w : Row). w.origin) (sym sub.1.1) ∙ is in
      let was : may_follow top.0.status sub.0.status ≡ true = before a p sub.0 top.0 sub.1.0 o top.1.0 in
      grind (arith, nat_tests, follows_aborted)

-- what is marked below an action, or below those that pass a test, goes down to the subactions
pub above_down : (n : ℕ) (rows : List Row) (x a p : ℕ) (row : Row) → AreLinked n rows → numbered n rows a ≡ Some row
    → row.origin ≡ Sub p → is_above n rows x p ≡ true → is_above n rows x a ≡ true
above_down n rows x a p row linked at is up = grind (arith, nat_tests, is_above_step n rows x a row linked at)

pub ancestor_down : (s : ℕ → Bool) (n : ℕ) (rows : List Row) (a p : ℕ) (row : Row) → AreLinked n rows
    → numbered n rows a ≡ Some row → row.origin ≡ Sub p → has_ancestor s n rows p ≡ true
    → has_ancestor s n rows a ≡ true
ancestor_down s n rows a p row linked at is up = grind (arith, nat_tests, has_ancestor_step s n rows a row linked at)

follows_live : (above : Status) → may_follow above Live ≡ true → above ≡ Live
follows_live above e = grind (arith)

-- no subaction of one that has no live child is live
no_live : (n : ℕ) (rows : List Row) (c a : ℕ) (row : Row) → is_live_under rows c ≡ false → numbered n rows a ≡ Some row
    → row.origin ≡ Sub c → is_live row.status ≡ false
no_live n [] c a row alone at is = absurd (none_some row at)
no_live n (r ∷ older) c a row alone at is = grind (arith, nat_tests, no_live n older c a row)

-- a live action has a live row
pub live_at : (n : ℕ) (rows : List Row) (a : ℕ) → is_live_at n rows a ≡ true
    → (row : Row) × ((numbered n rows a ≡ Some row) × (is_live row.status ≡ true))
live_at n rows a e = grind (arith, nat_tests)

pub is_live_is : (s : Status) → is_live s ≡ true → s ≡ Live
is_live_is s e = grind (arith)

-- one that has no live child is Committed
module _ (n : ℕ) (c : ℕ) (rows : List Row) (live : (row : Row) → numbered n rows c ≡ Some row → row.status ≡ Live)
    (alone : is_live_under rows c ≡ false) (before : AreInStep n rows) where
  pub in_step_committed : AreInStep n (mark n (λ k. eqb k c) Committed rows)
  in_step_committed a p row above at is at_p =
      let sub = unmarked n (λ k. eqb k c) Committed rows a row at in
      let top = unmarked n (λ k. eqb k c) Committed rows p above at_p in
      let o : sub.0.origin ≡ Sub p =
      sym (origin_marked (eqb a c) Committed sub.0) ∙ ap (λ (w : Row). w.origin) (sym sub.1.1) ∙ is in
      let was : may_follow top.0.status sub.0.status ≡ true = before a p sub.0 top.0 sub.1.0 o top.1.0 in
      grind (arith, nat_tests, no_live, follows_live)

in_step_older : (n : ℕ) (r : Row) (older : List Row) → AreLinked n (r ∷ older) → AreInStep n (r ∷ older)
    → AreInStep n older
in_step_older n r older linked before a p row above at is at_p =
    let lift : (k : ℕ) (w : Row) → numbered n older k ≡ Some w → numbered n (r ∷ older) k ≡ Some w
    = λ k w there. numbered_older n r older k (λ e. omega (arith, (row_begun n older k w there).1)) ∙ there in
    before a p row above (lift a row at) is (lift p above at_p)

-- an ancestor of a live action is live
pub live_above : (n : ℕ) (rows : List Row) (x a : ℕ) → AreLinked n rows → AreInStep n rows → is_above n rows x a ≡ true
    → is_live_at n rows a ≡ true → is_live_at n rows x ≡ true
live_above n [] x a linked before up live = absurd (false≢true up)
live_above n (r ∷ older) x a linked before up live =
    let was = in_step_older n r older linked before in
    elim (cases_eq a (n + length older)) [
      | inl e ↦ elim (ways n r older x a e up) [
        | inl same ↦ ap (is_live_at n (r ∷ older)) same ∙ live
        | inr via ↦
            let low = above_le n older x via.0 via.1.1 in
            let P : Origin → Type 0 = IsBegunBetween n (n + length older) in
            let between : (n ≤ via.0) × (via.0 < n + length older) = subst P via.1.0 linked.0 in
            let top = row_there n older via.0 between.0 between.1 in
            let follows = before a via.0 r top.0 (numbered_newest n r older a e) via.1.0
            (numbered_older n r older via.0 (λ is. omega (arith, between.1)) ∙ top.1) in
            let deep = live_above n older x via.0 linked.1 was via.1.1 in
            let up_live = lifted n r older x in
            let same = numbered_newest n r older a e in
            grind (arith, follows_live, is_live_is)
      ]
      | inr ne ↦ let deep = live_above n older x a linked.1 was in grind (arith, nat_tests, lifted n r older x)
    ]
  where
    lifted : (n : ℕ) (r : Row) (older : List Row) (x : ℕ) → is_live_at n older x ≡ true
        → is_live_at n (r ∷ older) x ≡ true
    lifted n r older x live = grind (arith, nat_tests, live_at n older x live, row_begun n older x)
