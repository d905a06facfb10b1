-- Live topactions, and which are left after one more abort.
use Rattle.std.proofs.Common.{Bool, List, None, [], ap, arith, cond, false, inl, inr, refl, subst, sym, true, ℕ, ⊎_elim}
use Rattle.std.proofs.{Common.{◌+◌, ◌-◌, ◌<◌, ◌∙◌, ◌∷◌, ◌≡◌, ◌≢◌, ◌≤◌, ◌++◌, OnErr, Result}, lemmas.Bool.and_from}
use Rattle.std.proofs.lemmas.{Bool.{both_ways, cases_eq, cases_lt, eq-eqb, Decides.nat_tests}, List.append-nil}
use Rattle.std.specs.Prelude.{filter, length, not, ◌&&◌, ◌==◌}
use Rattle.argus_actions.specs.{Rows.is_live_at, Tree.next}
use Rattle.argus_contents.specs.Answer.{done}
use Rattle.argus_core.specs.AbortingLive.{IsPartlyAborted, after_aborts, live_topactions, live_without_parent}
use Rattle.argus_core.specs.{Checkpoint.is_quiet, GuardianState.{StateInvariant, journal_view_of}}
use Rattle.argus_core.{specs.declared.engine.guardian_state.GuardianState.GuardianState, proofs.Begun.kept_orderly}
use Rattle.argus_core.proofs.StatusTold.{live_told, none_folded, none_past}
use Rattle.argus_entries.specs.{Call.abort, Entry.PlainEntry, Reply.answered}
use Rattle.argus_journal.specs.{Answers.{answer, if_live, or_refused}, LegalJournal.{entries_in, opening_in}}
use Rattle.argus_journal.specs.{Events.history, Numbering.all_in_program, JournalFacts.{is_live_in, next_action_number}}
use Rattle.argus_journal.specs.{Opening.Opening, JournalView.{JournalView, after, entry_of}}
use Rattle.argus_refinement.proofs.TreeAnswers.{next_is}
use Rattle.argus_model.specs.{Ancestors.{is_under, parent}, Event.Aborted, Numbers.contains, Status.is_live}
use Rattle.argus_model.{specs.History.{History, begun_actions, next_action, ◌▹◌}, proofs.Ancestors.ancestor_self}
use Rattle.argus_model.proofs.{Ancestors.parent_older, Bools.same_bool, Numbers.{rising_same, IsRising, any_found}}
use Rattle.argus_model.proofs.{Numbers.{contains_filter, filter_contains, rising_filter}, Live.begun_below}
use Rattle.argus_model.proofs.Live.{begun_listed, begun_rising, contains_unfolded, is_begun_parts, live_stands}
use Rattle.argus_model.proofs.{Live.stands_is_live, NextLive.{live_after_abort, zero_not_live}, Serial.lineage-base}
use Rattle.argus_model.proofs.{Siblings.live_begun, Standing.{Orderly, parent_is, parents_are_older, stands_upward}}

-- the first of a rising list that passes a test, and what is left where it alone passes no longer
module _ (p q : ℕ → Bool) (xs : List ℕ) (a : ℕ) (rising : IsRising xs) (there : contains xs a ≡ true)
    (passes : p a ≡ true) (low : (x : ℕ) → x < a → p x ≡ false)
    (rest : (x : ℕ) → contains xs x ≡ true → q x ≡ (p x && not (x == a))) where
  above : (x : ℕ) → contains (filter q xs) x ≡ true → (p x ≡ true) × (a < x)
  above x m = grind (arith, nat_tests, contains_filter)

  to : (x : ℕ) → contains (filter p xs) x ≡ true → contains (a ∷ filter q xs) x ≡ true
  to x m = grind (arith, nat_tests, contains_filter, filter_contains)

  from : (x : ℕ) → contains (a ∷ filter q xs) x ≡ true → contains (filter p xs) x ≡ true
  from x m = grind (arith, nat_tests, filter_contains, above, contains_filter)

  pub first_left : filter p xs ≡ a ∷ filter q xs
  first_left =
      rising_same (filter p xs) (a ∷ filter q xs) (rising_filter p xs rising)
      (λ x m. (above x m).1, rising_filter q xs rising)
      (λ x. same_bool (contains (filter p xs) x) (contains (a ∷ filter q xs) x) (to x) (from x))

-- where none passes, none is left
none_left : (p : ℕ → Bool) (xs : List ℕ) → ((x : ℕ) → p x ≡ false) → filter p xs ≡ []
none_left p [] none = refl
none_left p (x ∷ xs) none = ap (λ b. cond b (x ∷ filter p xs) (filter p xs)) (none x) ∙ none_left p xs none

swapped : (l n t : Bool) → ((l && n) && t) ≡ ((l && t) && n)
swapped l n t = grind (arith, nat_tests)

-- a list with something in it isn't empty, in the program's numbers either
some_in_program : (xs : List ℕ) (a : ℕ) → contains xs a ≡ true → all_in_program xs ≢ []
some_in_program [] a m e = both_ways false refl m
some_in_program (x ∷ xs) a m e = omega (arith, ap length e)

-- the first live action has no parent
module _ {V : Type 0} (h : History V) (a : ℕ) (w : Orderly h) (live : is_live h a ≡ true)
    (low : (x : ℕ) → x < a → is_live h x ≡ false) where
  top : parent h a ≡ 0
  top = grind (arith, nat_tests, live_stands, w, live, parent_is, parents_are_older, stands_is_live, stands_upward)

  pub some_live : all_in_program (live_without_parent h) ≢ []
  some_live =
      some_in_program (live_without_parent h) a
      (filter_contains (λ x. is_live h x && parent h x == 0) (begun_actions h) a
      (and_from (is_live h a) (parent h a == 0) live (eq-eqb (parent h a) 0 top))
      (begun_listed h a ∙ live_begun h a live))

module _ {V : Type 0} (h : History V) (a : ℕ) (w : Orderly (Aborted (a ∷ []) ▹ h)) (live : is_live h a ≡ true) where
  real : a ≢ 0
  real = (live_stands h w.1 a live).0

  -- a topaction stands under itself alone
  under_itself : (x : ℕ) → 0 < x → x < next_action h → parent h x ≡ 0 → is_under h (a ∷ []) x ≡ (x == a)
  under_itself x pos lt top = grind (arith, nat_tests, parent_older, parents_are_older, top, lineage-base, real)

  -- the topactions that are live after the abort: all but this one
  still : (x : ℕ) → contains (begun_actions h) x ≡ true
      → (is_live (Aborted (a ∷ []) ▹ h) x && parent h x == 0) ≡ ((is_live h x && parent h x == 0) && not (x == a))
  still x m = grind (arith, nat_tests, contains_unfolded, live_after_abort, w, under_itself, begun_below, swapped)

  -- it is over
  pub over_after : is_live (Aborted (a ∷ []) ▹ h) a ≡ false
  over_after = grind (arith, nat_tests, live_after_abort, w, ancestor_self)

  -- who wasn't live isn't
  pub over_still : (x : ℕ) → is_live h x ≡ false → is_live (Aborted (a ∷ []) ▹ h) x ≡ false
  over_still x e = live_after_abort h (a ∷ []) w x ∙ ap (λ b. b && not (is_under h (a ∷ []) x)) e

  module _ (low : (x : ℕ) → x < a → is_live h x ≡ false) where
    pub first_ends : live_without_parent h ≡ a ∷ live_without_parent (Aborted (a ∷ []) ▹ h)
    first_ends =
        first_left (λ x. is_live h x && parent h x == 0)
        (λ x. is_live (Aborted (a ∷ []) ▹ h) x && parent h x == 0) (begun_actions h) a (begun_rising h)
        (begun_listed h a ∙ live_begun h a live)
        (and_from (is_live h a) (parent h a == 0) live (eq-eqb (parent h a) 0 (top h a w.1 live low)))
        (λ x lt. ap (λ b. b && parent h x == 0) (low x lt)) still

-- a call that aborts a live action is answered, and says so
module _ (s : Opening) (j : List PlainEntry) (a : ℕ) (live : is_live_in s j a ≡ true) where
  abbrev h : History PlainEntry
  h = history s j

  accepted : if_live h a None ≡ None
  accepted = grind (arith, nat_tests, is_begun_parts, live_begun, live)

  answered_done : answer s j (abort a) ≡ answered done
  answered_done = ap (λ r. or_refused r (answered done)) accepted

  pub history_aborted : history s (entry_of (record { opening = s; entries = j }) (abort a) ∷ j)
      ≡ (Aborted ((a + 1) ∷ []) ▹ h)
  history_aborted = grind (arith, nat_tests, answered_done)

-- one more abort at the end of them
aborts_more : (journal : JournalView) (actions : List ℕ) (a : ℕ)
    → after_aborts journal (actions ++ a ∷ []) ≡ after (after_aborts journal actions) (abort a)
aborts_more journal [] a = refl
aborts_more journal (x ∷ actions) a = aborts_more (after journal (abort x)) actions a

append_one : (xs ys : List ℕ) (a : ℕ) → xs ++ a ∷ ys ≡ (xs ++ a ∷ []) ++ ys
append_one [] ys a = refl
append_one (x ∷ xs) ys a = ap (λ zs. x ∷ zs) (append_one xs ys a)

-- all below the bound are over, by aborts of the topactions among them that were live
pub record IsOverBelow (old new : JournalView) (bound : ℕ) : Type 0 where
  pub partly : IsPartlyAborted old new
  pub none : (x : ℕ) → x < bound → is_live_in new.opening new.entries x ≡ false
  pub same : next_action_number new.opening new.entries ≡ next_action_number old.opening old.entries

module _ (g : GuardianState) (k : StateInvariant g) where
  -- in the beginning
  pub over_folded : (opening : Opening) → opening ≡ opening_in g.journal → (first : ℕ)
      → first ≡ opening.first_action → IsOverBelow (journal_view_of g) (journal_view_of g) first
  over_folded opening is first at = grind (arith, nat_tests, none_folded)

  module _ (old : JournalView) (a : ℕ) (so_far : IsOverBelow old (journal_view_of g) a) where
    none_below : (x : ℕ) → x < a + 1 → is_live (history (opening_in g.journal) (entries_in g.journal)) x ≡ false
    none_below x lt =
        let h = history (opening_in g.journal) (entries_in g.journal) in
        ⊎_elim (λ z. subst (λ y. is_live h y ≡ false) (sym z) (zero_not_live h))
        (λ n. let up : (x - 1) + 1 ≡ x = omega (arith, n) in
        subst (λ y. is_live h y ≡ false) up (so_far.none (x - 1) (omega (arith, lt, n)))) (cases_eq x 0)

    -- the next one isn't live
    pub over_next : is_live_at g.tree.folded g.tree.rows a ≡ false → IsOverBelow old (journal_view_of g) (a + 1)
    over_next e = grind (arith, nat_tests, live_told)

    -- it is live, so that some topaction is
    pub some_left : is_live_at g.tree.folded g.tree.rows a ≡ true → live_topactions (journal_view_of g) ≢ []
    some_left e =
        some_live (history (opening_in g.journal) (entries_in g.journal)) (a + 1)
        (kept_orderly k)
        (live_told g k a ∙ e) none_below

    -- it is, and is aborted
    module _ (e : is_live_at g.tree.folded g.tree.rows a ≡ true) (g' : GuardianState) (k' : StateInvariant g')
        (made : journal_view_of g' ≡ after (journal_view_of g) (abort a)) where
      abbrev s : Opening
      s = opening_in g.journal

      abbrev j : List PlainEntry
      j = entries_in g.journal

      live : is_live (history s j) (a + 1) ≡ true
      live = live_told g k a ∙ e

      told : history (opening_in g'.journal) (entries_in g'.journal) ≡ (Aborted ((a + 1) ∷ []) ▹ history s j)
      told = grind (arith, nat_tests, history_aborted, live)

      w : Orderly (Aborted ((a + 1) ∷ []) ▹ history s j)
      w = subst (λ h. Orderly h) told (kept_orderly k')

      left : live_topactions (journal_view_of g) ≡ a ∷ live_topactions (journal_view_of g')
      left = grind (arith, nat_tests, first_ends, w, live, none_below, told)

      pub over_aborted : IsOverBelow old (journal_view_of g') (a + 1)
      over_aborted = grind (arith, nat_tests, left, append_one, aborts_more, told, over_after, w, live, over_still)

  -- in the end
  module _ (old : JournalView) (bound : ℕ) (so_far : IsOverBelow old (journal_view_of g) bound)
      (all : next_action_number old.opening old.entries ≤ bound) where
    none_live : (x : ℕ) → is_live (history (opening_in g.journal) (entries_in g.journal)) x ≡ false
    none_live x =
        let h = history (opening_in g.journal) (entries_in g.journal) in
        ⊎_elim (λ z. subst (λ y. is_live h y ≡ false) (sym z) (zero_not_live h))
        (λ n. let up : (x - 1) + 1 ≡ x = omega (arith, n) in
        subst (λ y. is_live h y ≡ false) up (elim (cases_lt (x - 1) bound) [
          | inl lt ↦ so_far.none (x - 1) lt
          | inr ge ↦
              let e = so_far.same in
              let t = next_is g.tree h k.state.actions (kept_orderly k) in
              none_past g k (x - 1) (omega (arith, ge, e, all, t))
        ])) (cases_eq x 0)

    pub all_quiet : is_quiet (journal_view_of g) ≡ true
    all_quiet = grind (arith, nat_tests, any_found, none_live)

    pub all_aborted : journal_view_of g ≡ after_aborts old (live_topactions old)
    all_aborted = grind (arith, nat_tests, none_left, none_live, append-nil)

-- what holds in any case holds after an error
pub on_err : {T E P : Type 0} (r : Result T E) → P → OnErr r P
on_err r p = grind (arith, nat_tests)

-- the number that the next action gets, as the tree has it
pub next_at : (g : GuardianState) → StateInvariant g
    → next g.tree ≡ next_action_number (opening_in g.journal) (entries_in g.journal)
next_at g k =
    let h = history (opening_in g.journal) (entries_in g.journal) in
    let t = next_is g.tree h k.state.actions (kept_orderly k) in
    omega (arith, t)
