-- A tree with the rows of a legal journal's history tells whose work counts.
use Rattle.std.proofs.Common.{Bool, List, None, Option, Some, ap, arith, cond, false, inl, inr, refl, sym, true, ℕ, ◌+◌}
use Rattle.std.proofs.{Common.{◌<◌, ◌∙◌, ◌≡◌, ◌≢◌}, lemmas.{Bool.{Decides.nat_tests, cases_Bool}, Option.none-some}}
use Rattle.std.specs.{Option.option_map, Prelude.{not, ◌&&◌}}
use Rattle.argus_actions.specs.{Tree.{Tree, is_ancestor, parent_of, status_of}, declared.status.Status.Status}
use Rattle.argus_actions.specs.declared.status.Status.TheVariants.{Aborted, Committed, Folded, Live}
use Rattle.argus_actions.specs.declared.action_id.ActionId.{ActionId}
use Rattle.argus_entries.specs.Entry.{PlainEntry}
use Rattle.argus_journal.specs.{Entries.entries, Events.history, JournalFacts.{in_program_owner, owner_in}, Legal.Legal}
use Rattle.argus_journal.specs.{Opening.{Opening, model_opening}, declared.owner.Owner.Owner}
use Rattle.argus_journal.specs.Replaying.{counts_by_entries, counts_with, is_ancestor_by_entries}
use Rattle.argus_journal.proofs.{Kin.above_told, Legal.lawful, OwnersByEntries.{held_live, model_owner, owner_is_told}}
use Rattle.argus_journal.proofs.OwnersByEntries.{owner_told}
use Rattle.argus_model.specs.{Event.{Accessed, Began}, History.{History, Opened, next_action, ◌▹◌}, Owner.owner}
use Rattle.argus_model.specs.Status.{is_doomed, status, IsAborted, IsCommitted, IsFolded, IsLive, has_committed}
use Rattle.argus_model.{specs.Status.is_begun, proofs.Ancestors.{folded_next, lineage_old, parent_older}}
use Rattle.argus_model.proofs.{Lawful.lawful_orderly, Counting.{owner_when_committed, owner_when_doomed}}
use Rattle.argus_model.proofs.{Counting.{owner_when_live, owner_when_top}, Live.{is_begun_from, is_begun_parts}}
use Rattle.argus_model.proofs.{Siblings.live_begun, Standing.{Orderly, parents_are_older}}
use Rattle.argus_refinement.{specs.TreeRefinement.{IsTree, history_status}, proofs.TreeAnswers.ancestor_begun_is}
use Rattle.argus_refinement.proofs.TreeAnswers.{ancestor_is, begun_row, no_parent_is, no_row, parent_is, status_is}
use Rattle.argus_actions.specs.Row as tree_row
use Rattle.argus_journal.specs.declared.owner.Owner.TheVariants as by
use Rattle.argus_model.specs.Ancestors as model
use Rattle.argus_model.specs.Event as event
use Rattle.argus_model.specs.Status as model_status

-- what a status says of an action

abbrev status_by : Bool → Bool → Bool → model_status.Status
status_by begun doomed committed =
    cond begun (cond doomed IsAborted (cond committed IsCommitted IsLive)) IsFolded

by_committed : (b d c : Bool) → status_by b d c ≡ IsCommitted → c ≡ true
by_committed b d c e = grind (arith, nat_tests)

by_live : (b d c : Bool) → status_by b d c ≡ IsLive → (b && (not c && not d)) ≡ true
by_live b d c e = grind (arith, nat_tests)

by_aborted : (b d c : Bool) → status_by b d c ≡ IsAborted → d ≡ true
by_aborted b d c e = grind (arith, nat_tests)

by_folded : (b d c : Bool) → status_by b d c ≡ IsFolded → b ≡ false
by_folded b d c e = grind (arith, nat_tests)

-- the status where there is no row
rowless : (low : Bool) (q : Option tree_row.Row) (st : Status) → q ≡ None
    → cond low (Some Folded) (option_map (λ row. row.status) q) ≡ Some st → (low ≡ true) × (st ≡ Folded)
rowless low q st none e = grind (arith)

statusless : (low : Bool) (q : Option tree_row.Row)
    → cond low (Some Folded) (option_map (λ row. row.status) q) ≡ None → (low ≡ false) × (q ≡ None)
statusless low q e = grind (arith)

same_status : (q : Option Status) (st : Status) (m : model_status.Status) → option_map history_status q ≡ Some m
    → q ≡ Some st → m ≡ history_status st
same_status q st m e is = grind (arith, nat_tests)

-- under one that hasn't begun there is nobody but the base

unbegun : (h : History PlainEntry) (from : event.Origin) (y : ℕ) → is_begun (Began from ▹ h) y ≡ false
    → (y ≢ next_action h) × (is_begun h y ≡ false)
unbegun h from y nb = grind (arith, nat_tests, folded_next, is_begun_from, is_begun_parts)

unbegun_line : (h : History PlainEntry) (y : ℕ) → is_begun h y ≡ false → model.lineage h y ≡ model.to_base y
unbegun_line (Opened n) y nb = refl
unbegun_line (Began from ▹ h) y nb =
    let k = unbegun h from y nb in lineage_old h from y k.0 ∙ unbegun_line h y k.1
unbegun_line (event.Committed b ▹ h) y nb = unbegun_line h y nb
unbegun_line (event.Aborted bs ▹ h) y nb = unbegun_line h y nb
unbegun_line (Accessed b o v ▹ h) y nb = unbegun_line h y nb

alone : (h : History PlainEntry) (a b : ℕ) → is_begun h (a + 1) ≡ true → is_begun h (b + 1) ≡ false
    → model.is_ancestor h (a + 1) (b + 1) ≡ false
alone h a b begun nb = grind (arith, nat_tests, unbegun_line)

module _ (t : Tree) (s : Opening) (j : List PlainEntry) (l : Legal s j) (is : IsTree t (history s j)) where
  abbrev h : History PlainEntry
  h = history s j

  orderly : Orderly h
  orderly = lawful_orderly entries (model_opening s) h (lawful s j l)

  there : (a : ℕ) → is_begun h (a + 1) ≡ true → owner_in s j a ≡ Some (in_program_owner (owner h (a + 1)))
  there a b = grind (arith, nat_tests, is_begun_parts)

  begun_by_status : (a : ℕ) (st : Status) → status_of t a ≡ Some st → st ≢ Folded → is_begun h (a + 1) ≡ true
  begun_by_status a st e n = grind (arith, nat_tests, rowless, no_row, orderly)

  said : (a : ℕ) (st : Status) → is_begun h (a + 1) ≡ true → status_of t a ≡ Some st
      → status h (a + 1) ≡ history_status st
  said a st b e = same_status (status_of t a) st (status h (a + 1)) (status_is t h is orderly a b) e

  -- one that has committed: its parent is older, and has the same owner
  pub goes_up : (a : ℕ) (p : ActionId) → status_of t a ≡ Some Committed → parent_of t a ≡ Some p
      → (owner_in s j a ≡ owner_in s j p.0) × (p.0 < a)
  goes_up a p e up =
      let b = begun_by_status a Committed e (λ k. cc) in
      let x = a + 1 in
      let c = by_committed (is_begun h x) (is_doomed h x) (has_committed h x) (said a Committed b e) in
      let parts = is_begun_parts h x b in
      let same = parent_is t h is orderly a p b up in
      let older = (parent_older h x (parents_are_older h orderly) (omega arith) parts.1).0 in
      let low : p.0 < a = omega (arith, same, older) in
      let below : p.0 + 1 < next_action h = omega (arith, low, parts.1) in
      grind (arith, nat_tests, there, owner_when_committed, orderly)

  pub tops : (a : ℕ) → status_of t a ≡ Some Committed → parent_of t a ≡ None → owner_in s j a ≡ Some by.Base
  tops a e up =
      grind (arith, nat_tests, begun_by_status, by_committed, said, there, owner_when_top, orderly, no_parent_is)

  pub lives : (a : ActionId) → status_of t a.0 ≡ Some Live → owner_in s j a.0 ≡ Some (by.Held a)
  lives a e = grind (arith, nat_tests, begun_by_status, by_live, said, there, owner_when_live, orderly)

  pub is_gone : (a : ℕ) → status_of t a ≡ Some Aborted → owner_in s j a ≡ Some by.Gone
  is_gone a e = grind (arith, nat_tests, begun_by_status, by_aborted, said, there, owner_when_doomed, orderly)

  pub is_folded : (a : ℕ) → status_of t a ≡ Some Folded → owner_in s j a ≡ Some by.Folded
  is_folded a e = grind (arith, nat_tests, folded_next, by_folded, said, rowless, no_row, orderly)

  pub is_none_there : (a : ℕ) → status_of t a ≡ None → owner_in s j a ≡ None
  is_none_there a e = grind (arith, nat_tests, statusless, is_begun_from, begun_row, orderly, none-some)

  -- who answers for some work has begun
  holder_begun : (a : ℕ) (x : ActionId) → owner_in s j a ≡ Some (by.Held x) → is_begun h (x.0 + 1) ≡ true
  holder_begun a x e =
      live_begun h (x.0 + 1)
      (held_live h orderly (a + 1) x (sym (ap model_owner (owner_told s j l a ∙ e)) ∙ owner_is_told s j l a))

  -- of such one the tree tells whether it stands above another
  pub above : (a : ℕ) (x y : ActionId) → owner_in s j a ≡ Some (by.Held x)
      → is_ancestor t x.0 y.0 ≡ is_ancestor_by_entries j x.0 y.0
  above a x y e =
      let bx = holder_begun a x e in
      elim (cases_Bool (is_begun h (y.0 + 1))) [
        | inl by_ ↦ ancestor_begun_is t h is orderly x.0 y.0 bx by_ ∙ sym (above_told s j l x.0 y.0)
        | inr nb ↦
            ancestor_is t h is orderly x.0 y.0
            ∙ nobody (is_begun h (x.0 + 1)) (is_begun h (y.0 + 1)) (model.is_ancestor h (x.0 + 1) (y.0 + 1)) nb
            ∙ sym (alone h x.0 y.0 bx nb) ∙ sym (above_told s j l x.0 y.0)
      ]
    where
      nobody : (b c k : Bool) → c ≡ false → ((b && c) && k) ≡ false
      nobody true c k e = ap (λ d. d && k) e
      nobody false c k e = refl

-- with this owner, what the action did counts or not
pub counted : (s : Opening) (j : List PlainEntry) → Legal s j → (reader : Option ActionId) (a : ℕ) (q : Option Owner)
    → q ≡ owner_in s j a → counts_with j reader q ≡ counts_by_entries s.first_action j reader a
counted s j l reader a q e = ap (counts_with j reader) (e ∙ sym (owner_told s j l a))
