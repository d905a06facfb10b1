-- A guardian of which no action is live, and its fold.
use Rattle.std.proofs.Common.{List, Option, [], ap, arith, eqb, false, inl, inr, length, map, not, refl, subst, suc}
use Rattle.std.proofs.{Common.{sym, true, zero, ℕ, ◌+◌, ◌-◌, ◌<◌, ◌∙◌, ◌∷◌, ◌≡◌, ◌≤◌}, lemmas.Bool.both_ways}
use Rattle.std.{proofs.lemmas.Bool.{cases_Bool, eq-eqb, or_left, Decides.nat_tests}, specs.Prelude.slice_index_or}
use Rattle.argus_actions.specs.{Rows.is_live_at, Tree.{Tree, next}, declared.action_id.ActionId.ActionId}
use Rattle.argus_contents.specs.{Content.PlainContent, Shape.PlainShape, declared.limits.TheConstants.MAX_ACTIONS}
use Rattle.argus_entries.specs.Entry.{PlainEntry}
use Rattle.argus_core.specs.{Checkpoint.{is_quiet, opened_objects}, GuardianState.{StateInvariant, journal_view_of}}
use Rattle.argus_core.specs.{StateRefinement.StateRefinesJournal, Moving.is_listed}
use Rattle.argus_core.specs.declared.engine.atomic_object.AtomicObject.{AtomicObject}
use Rattle.argus_core.{specs.declared.engine.guardian_state.GuardianState.GuardianState, proofs.Begun.kept_orderly}
use Rattle.argus_core.proofs.Ends.{some_object}
use Rattle.argus_journal.specs.{Entries.entries, Events.history, Legal.Legal, Objects.shapes, Folding.fold}
use Rattle.argus_journal.specs.{Folding.next_entry_number, LegalJournal.opening_in, Opening.{Opening, content_in}}
use Rattle.argus_journal.specs.{Opening.{is_sound, opening_at}, JournalFacts.{base_of, next_action_number}}
use Rattle.argus_journal.{specs.declared.limits.TheConstants.MAX_FIRST_ENTRY, proofs.Folded.{fold_content, fold_made}}
use Rattle.argus_journal.proofs.{Folded.{fold_numbers, fold_sound, shapes-with_contents}, Within.actions_within}
use Rattle.argus_refinement.{specs.CellRefinement.{IsCell, history_numbers}, proofs.TreeAnswers.{live_is, next_is}}
use Rattle.argus_refinement.proofs.TreeSteps.{start_tree}
use Rattle.argus_model.specs.{History.{History, begun_actions, folded}, Holders.{readers, writers}, Numbers.contains}
use Rattle.argus_model.{specs.Status.is_live, proofs.{Live.{begun_listed, is_begun_parts}, LockRules.holders_live}}
use Rattle.argus_model.proofs.{Siblings.live_begun, Numbers.{any_found, any_from, contains_first, joined, joined_left}}
use Rattle.argus_objects.specs.{Holdings.objects_held_by, CellChanges.has_version, Object.{Object, PlainVersion}}
use Rattle.argus_objects.specs.declared.holdings.Holdings.{Holdings}

-- no event folds more
pub folded_is : (s : Opening) (j : List PlainEntry) → folded (history s j) ≡ s.first_action
folded_is s [] = refl
folded_is s (e ∷ older) = grind (arith, nat_tests, folded_is s older)

no_readers : (rs : List ActionId) → history_numbers rs ≡ [] → rs ≡ []
no_readers [] e = refl
no_readers (r ∷ rs) e = cc

no_versions : (vs : List PlainVersion) → ((x : ActionId) → has_version x vs ≡ false) → vs ≡ []
no_versions [] f = refl
no_versions (v ∷ vs) f =
    absurd (both_ways (has_version v.holder (v ∷ vs)) (f v.holder)
    (or_left (eqb v.holder.0 v.holder.0) (has_version v.holder vs) (eq-eqb v.holder.0 v.holder.0 refl)))

-- the shapes and the bases of objects as an opening has them
pub shapes_opened : (xs : List AtomicObject) → map (λ object. object.0) (opened_objects xs) ≡ map (λ k. k.shape) xs
shapes_opened [] = refl
shapes_opened (x ∷ xs) = ap (λ ys. x.shape ∷ ys) (shapes_opened xs)

pub base_opened : (xs : List AtomicObject) (o : ℕ) (d : AtomicObject) → o < length xs
    → content_in (opened_objects xs) o ≡ (slice_index_or xs o d).cell.base
base_opened [] o d lt = absurd (omega (arith, lt))
base_opened (x ∷ xs) zero d lt = refl
base_opened (x ∷ xs) (suc o) d lt = base_opened xs o d (omega (arith, lt))

pub length_opened : (xs : List AtomicObject) → length (opened_objects xs) ≡ length xs
length_opened [] = refl
length_opened (x ∷ xs) = ap suc (length_opened xs)

-- the journal's length, of what it says
pub count_at : (s s' : Opening) (j j' : List PlainEntry) (n : ℕ) → n ≡ next_entry_number s' j' → s' ≡ s → j' ≡ j
    → n ≡ next_entry_number s j
count_at s s' j j' n e es ej = grind (arith, nat_tests)

-- what is there for good stays in the fold
pub base_stays : (s s' : Opening) (j j' : List PlainEntry) → is_sound s ≡ true → Legal s j → s' ≡ fold s j → j' ≡ []
    → (o : ℕ) → base_of s' j' o ≡ base_of s j o
base_stays s s' j j' sound l es ej o = grind (arith, nat_tests, fold_content)

module _ (t : Tree) (objects : List AtomicObject) (holdings : Holdings)
    (s : Opening) (j : List PlainEntry) (k : StateRefinesJournal t objects holdings s j) where
  abbrev h : History PlainEntry
  h = history s j

  next_told : next t ≡ next_action_number s j
  next_told = let e = next_is t (history s j) k.state.actions (kept_orderly k) in omega (arith, e)

  pub few_actions : next t ≤ MAX_ACTIONS
  few_actions = let e = next_told in let q = actions_within s j k.limits.actions k.legal in omega (arith, e, q)

  -- copies of the objects make the fold
  pub fold_is : (copies : List (PlainShape × Option PlainContent)) (first : ℕ) → copies ≡ opened_objects objects
      → first ≡ next t → opening_at copies first (next_entry_number s j) ≡ fold s j
  fold_is copies first e f =
      fold_made s j copies first (ap (map (λ object. object.0)) e ∙ shapes_opened objects ∙ k.shapes) (λ o lt.
      let low : o < length objects = subst (λ n. o < n) (ap (λ xs. length xs) e ∙ length_opened objects) lt in
      let d : AtomicObject = some_object objects o low in
      ap (λ xs. content_in xs o) e ∙ base_opened objects o d low ∙ (k.state.each o d low).base) (f ∙ next_told)

  -- an action that is live is among those that began
  busy_at : (a : ℕ) → is_live_at t.folded t.rows a ≡ true → is_quiet (record { opening = s; entries = j }) ≡ false
  busy_at a e =
      let l : is_live h (a + 1) ≡ true = live_is t h k.state.actions (kept_orderly k) a ∙ e in
      ap not (any_from (is_live h) (begun_actions h) (a + 1) (begun_listed h (a + 1) ∙ live_begun h (a + 1) l) l)

  module _ (first : ℕ) (at : first ≡ s.first_action)
      (none : (a : ℕ) → first ≤ a → a < next t → is_live_at t.folded t.rows a ≡ false) where
    none_live : (x : ℕ) → is_live h x ≡ false
    none_live x =
        elim (cases_Bool (is_live h x)) [
          | inl l ↦
              let q = is_begun_parts h x (live_begun h x l) in
              let w = kept_orderly k in
              let n = next_is t h k.state.actions w in
              let f = folded_is s j in
              let up : x ≡ (x - 1) + 1 = omega (arith, q.0) in
              absurd (both_ways (is_live h x)
              (ap (is_live h) up ∙ live_is t h k.state.actions w (x - 1)
              ∙ none (x - 1) (omega (arith, q.0, f, at)) (omega (arith, q.0, q.1, n))) l)
          | inr e ↦ e
        ]

    quiet_at : is_quiet (record { opening = s; entries = j }) ≡ true
    quiet_at = grind (arith, nat_tests, any_found, none_live)

    no_member : (xs : List ℕ) → ((x : ℕ) → contains xs x ≡ true → is_live h x ≡ true) → xs ≡ []
    no_member [] f = refl
    no_member (x ∷ xs) f = absurd (both_ways (is_live h x) (none_live x) (f x (contains_first x xs)))

    no_reader : (o : ℕ) → readers entries h o ≡ []
    no_reader o =
        no_member (readers entries h o)
        (λ x m. holders_live entries h (kept_orderly k) o x
        (joined_left (readers entries h o) (writers entries h o) x m))

    no_writer : (o : ℕ) → writers entries h o ≡ []
    no_writer o =
        no_member (writers entries h o)
        (λ x m. holders_live entries h (kept_orderly k) o x
        (joined (readers entries h o) (writers entries h o) x m))

    -- the cell stays
    cell_folded : (t' : Tree) (o : ℕ) (c : Object) → IsCell s h t o c → IsCell (fold s j) (history (fold s j) []) t' o c
    cell_folded t' o c i =
        let rs = no_readers c.readers (i.readers ∙ no_reader o) in
        let vs = no_versions c.versions (λ x. i.writers x ∙ ap (λ xs. contains xs (x.0 + 1)) (no_writer o)) in
        let base = fold_content s j k.sound k.legal o in
        grind (arith, nat_tests, rs, vs, base)

    pub kept_folded : (t' : Tree) (holdings' : Holdings) → t'.folded ≡ next t → t'.rows ≡ []
        → ((x : ActionId) → objects_held_by holdings' x ≡ []) → next_entry_number s j ≤ MAX_FIRST_ENTRY
        → StateRefinesJournal t' objects holdings' (fold s j) []
    kept_folded t' holdings' f r empty n = record {
      legal = tt;
      sound = fold_sound s j k.sound k.legal;
      limits = fold_numbers s j k.limits k.legal n;
      few = k.few;
      shapes = k.shapes ∙ sym (shapes-with_contents (base_of s j) (shapes s j));
      state = record {
        actions = start_tree t' (next_action_number s j) (f ∙ next_told) r;
        each = λ o d lt. cell_folded t' o (slice_index_or objects o d).cell (k.state.each o d lt);
        held = λ a o. ap (λ l. is_listed l o) (empty a);
        there = λ a o e. absurd (both_ways (is_listed (objects_held_by holdings' a) o) (ap (λ l. is_listed l o)
            (empty a)) e);
      };
    }

-- the same of a guardian, whose tree was searched from the opening's first action on
module _ (g : GuardianState) (k : StateInvariant g) where
  pub busy_in : (a : ℕ) × (is_live_at g.tree.folded g.tree.rows a ≡ true) → is_quiet (journal_view_of g) ≡ false
  busy_in live = busy_at _ _ _ _ _ k live.0 live.1

  pub quiet_in : (opening : Opening) → opening ≡ opening_in g.journal → (first : ℕ) → first ≡ opening.first_action
      → ((a : ℕ) → first ≤ a → a < next g.tree → is_live_at g.tree.folded g.tree.rows a ≡ false)
      → is_quiet (journal_view_of g) ≡ true
  quiet_in opening is first at none = quiet_at _ _ _ _ _ k first (at ∙ ap (λ (o : Opening). o.first_action) is) none
