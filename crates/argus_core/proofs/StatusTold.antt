-- What the tree says of an action's status, and of who is live, is what the journal says.
use Rattle.std.proofs.{Common.{Option, Some, arith, false, true, ℕ, ◌<◌, ◌∙◌, ◌≡◌, ◌≤◌}, lemmas.Option.IfSome_then}
use Rattle.std.{proofs.lemmas.Bool.Decides.nat_tests, specs.Option.{IfNone, IfSome, option_map}}
use Rattle.argus_actions.{proofs.RowsLemmas.numbered_past, specs.{Rows.is_live_at, Tree.{next, status_of}}}
use Rattle.argus_actions.specs.declared.action_id.ActionId.{ActionId}
use Rattle.argus_core.specs.{GuardianState.{StateInvariant, journal_view_of}, Statuses.{NoneLiveBetween, NoneLiveFrom}}
use Rattle.argus_core.specs.Statuses.{program_status, status_in}
use Rattle.argus_core.{specs.declared.engine.guardian_state.GuardianState.GuardianState, proofs.Begun.kept_orderly}
use Rattle.argus_core.proofs.Checkpoints.{folded_is}
use Rattle.argus_entries.specs.Entry.{PlainEntry}
use Rattle.argus_journal.specs.{Events.history, JournalFacts.is_live_in, LegalJournal.{entries_in, opening_in}}
use Rattle.argus_refinement.{specs.TreeRefinement.history_status, proofs.TreeAnswers.{begun_from_tree, live_is}}
use Rattle.argus_refinement.proofs.TreeAnswers.{next_is, status_is}
use Rattle.argus_model.{specs.History.History, proofs.{Ancestors.folded_next, Standing.Orderly}}
use Rattle.argus_actions.specs.declared.status.Status as tree_status
use Rattle.argus_model.specs.Status as model

-- the program's word, back from the history's
said_status : (q : Option tree_status.Status) (s : model.Status) → option_map history_status q ≡ Some s
    → q ≡ Some (program_status s)
said_status q s e = grind (arith, nat_tests)

module _ (g : GuardianState) (k : StateInvariant g) where
  abbrev h : History PlainEntry
  h = history (opening_in g.journal) (entries_in g.journal)

  w : Orderly h
  w = kept_orderly k

  -- the tree's word is the journal's
  pub status_told : (a : ℕ) → status_of g.tree a ≡ status_in (journal_view_of g) a
  status_told a =
      grind (arith, nat_tests, next_is, w, folded_next, begun_from_tree, said_status, status_is, numbered_past)

  -- who is live
  pub live_told : (a : ℕ) → is_live_in (opening_in g.journal) (entries_in g.journal) a
      ≡ is_live_at g.tree.folded g.tree.rows a
  live_told a = live_is g.tree h k.state.actions w a

  -- nobody is who is folded
  pub none_folded : (first : ℕ) → first ≡ (opening_in g.journal).first_action → (a : ℕ) → a < first
      → is_live_in (opening_in g.journal) (entries_in g.journal) a ≡ false
  none_folded first at a lt = grind (arith, nat_tests, folded_is)

  -- nor who hasn't begun
  pub none_past : (a : ℕ) → next g.tree ≤ a → is_live_in (opening_in g.journal) (entries_in g.journal) a ≡ false
  none_past a past = grind (arith, nat_tests, next_is, w)

none_then : (r : Option ActionId) {P Q : Type 0} → IfNone r P → (P → Q) → IfNone r Q
none_then r p f = grind (arith, nat_tests)

module _ (g : GuardianState) (k : StateInvariant g) (from start : ℕ) (r : Option ActionId)
    (below : (x : ℕ) → from ≤ x → x < start → is_live_in (opening_in g.journal) (entries_in g.journal) x ≡ false) where
  -- the one that was found is live
  pub live_found : IfSome r (λ a. is_live_at g.tree.folded g.tree.rows a.0 ≡ true)
      → IfSome r (λ a. is_live_in (opening_in g.journal) (entries_in g.journal) a.0 ≡ true)
  live_found q = IfSome_then r q (λ a e. live_told g k a.0 ∙ e)

  -- it is the first one
  pub first_found : IfSome r (λ a. (x : ℕ) → start ≤ x → x < a.0 → is_live_at g.tree.folded g.tree.rows x ≡ false)
      → IfSome r (λ a. NoneLiveBetween (journal_view_of g) from a.0)
  first_found q = grind (arith, nat_tests, live_told)

  -- none was found, since none is live
  pub none_found : IfNone r ((x : ℕ) → start ≤ x → x < next g.tree → is_live_at g.tree.folded g.tree.rows x ≡ false)
      → IfNone r (NoneLiveFrom (journal_view_of g) from)
  none_found q = grind (arith, nat_tests, none_then, live_told, none_past)
