-- The tree refuses a call exactly if the journal does, and for the same reason.
use Rattle.std.proofs.Common.{Bool, None, Option, Some, ap, arith, false, inl, inr, ℕ, ◌+◌, ◌≤◌, ◌≡◌}
use Rattle.std.{proofs.lemmas.Bool.{Decides.nat_tests, cases_Bool}, specs.{Option.option_or, Prelude.{nat_le, nat_lt}}}
use Rattle.std.specs.Prelude.{not, ◌&&◌}
use Rattle.argus_refinement.specs.TreeRefinement.{IsTree, journal_refusal_if_any, history_status}
use Rattle.argus_refinement.proofs.TreeAnswers.{begun_from_tree, begun_row, child_is, depth_in_rows, next_is, under_is}
use Rattle.argus_refinement.proofs.TreeAnswers.{under_none_is}
use Rattle.argus_actions.{proofs.RowsLemmas.numbered_past, specs.Refusals.{abort_others_refusal, abort_refusal}}
use Rattle.argus_actions.specs.Refusals.{begin_nested_refusal, begin_sub_refusal, begin_top_refusal, commit_refusal}
use Rattle.argus_actions.specs.{Refusals.{refused_if, unless_live}, Tree.Tree}
use Rattle.argus_actions.specs.declared.action_refusal.ActionRefusal.{ActionRefusal}
use Rattle.argus_entries.specs.{Entry.PlainEntry, declared.refusal.Refusal.{Refusal, TheVariants.{Over, Suspended}}}
use Rattle.argus_entries.specs.declared.refusal.Refusal.TheVariants.{TooMany}
use Rattle.argus_journal.specs.Answers.{if_created, if_free, if_live, if_room, if_shallow, unless}
use Rattle.argus_model.{proofs.{Live.is_begun_parts, Rows.live_status_is, Standing.Orderly}, specs.History.History}
use Rattle.argus_model.specs.{History.folded, Rows.is_live_status, Status.{is_begun, is_live}}
use Rattle.argus_actions.specs.declared.action_refusal.ActionRefusal.TheVariants as refusal
use Rattle.argus_actions.specs.declared.status.Status as tree_status
use Rattle.argus_model.specs.Status as model_status

-- a live row isn't refused, any other is over
unless_status : (st : tree_status.Status) (b : Bool) → is_live_status (history_status st) ≡ b
    → journal_refusal_if_any (unless_live (Some st)) ≡ unless b Over None
unless_status st b e = grind (arith)

said_or : (q r : Option ActionRefusal) → journal_refusal_if_any (option_or q r) ≡ option_or (journal_refusal_if_any q)
    (journal_refusal_if_any r)
said_or q r = grind (arith)

children_said : (b : Bool) → journal_refusal_if_any (refused_if b refusal.ChildrenLive) ≡ unless (not b) Suspended None
children_said b = grind (arith, nat_tests)

many_said : (b : Bool) → journal_refusal_if_any (refused_if b refusal.TooMany) ≡ unless (not b) TooMany None
many_said b = grind (arith, nat_tests)

-- the number is at least the limit, or below it
not_le : (m n : ℕ) → not (nat_le m n) ≡ nat_lt n m
not_le m n = grind (arith, nat_tests)

pub unless_rest : (b : Bool) (why : Refusal) (rest : Option Refusal)
    → unless b why rest ≡ option_or (unless b why None) rest
unless_rest b why rest = grind (arith, nat_tests)

or_assoc : (p q r : Option Refusal) → option_or (option_or p q) r ≡ option_or p (option_or q r)
or_assoc p q r = grind (arith, nat_tests)

-- what comes behind the test of a live action
pub live_rest : (h : History PlainEntry) (a : ℕ) (rest : Option Refusal)
    → if_live h a rest ≡ option_or (if_live h a None) rest
live_rest h a rest = grind (arith, nat_tests)

-- what comes behind the test of an action that has no live child
pub free_rest : (h : History PlainEntry) (a : ℕ) (rest : Option Refusal)
    → if_free h a rest ≡ option_or (if_free h a None) rest
free_rest h a rest = grind (arith, nat_tests, live_rest, unless_rest, or_assoc)

-- what hasn't begun is refused for that alone
not_live : (h : History PlainEntry) (a : ℕ) → is_begun h (a + 1) ≡ false → is_live h (a + 1) ≡ false
not_live h a b = ap (λ b. b && (not (model_status.has_committed h (a + 1)) && not (model_status.is_doomed h (a + 1)))) b

module _ (t : Tree) (h : History PlainEntry) (is : IsTree t h) (w : Orderly h) where
  -- a topaction can't begin
  pub top_is : journal_refusal_if_any (begin_top_refusal t) ≡ if_room h
  top_is = grind (arith, nat_tests, next_is, many_said, not_le)

  -- an action can't be aborted
  pub abort_is : (a : ℕ) → journal_refusal_if_any (abort_refusal t a) ≡ if_live h a None
  abort_is a =
      let n = next_is t h is w in
      let f = is.folded in
      grind (arith, nat_tests, begun_row, begun_from_tree, unless_status, live_status_is, numbered_past, never_live)
    where
      never_live : (a : ℕ) → a + 1 ≤ folded h → is_live h (a + 1) ≡ false
      never_live a low =
          elim (cases_Bool (is_begun h (a + 1))) [
            | inl b ↦ let q = is_begun_parts h (a + 1) b in absurd (omega (arith, q.0))
            | inr b ↦ not_live h a b
          ]

  -- an action can't commit
  pub commit_is : (a : ℕ) → journal_refusal_if_any (commit_refusal t a) ≡ if_free h a None
  commit_is a = grind (arith, nat_tests, said_or, abort_is, children_said, child_is, live_rest)

  -- a nested topaction can't begin
  pub nested_is : (a : ℕ) → journal_refusal_if_any (begin_nested_refusal t a) ≡ if_live h a (if_room h)
  nested_is a = grind (arith, nat_tests, said_or, abort_is, top_is, live_rest)

  -- a subaction can't begin
  pub sub_is : (a : ℕ) → journal_refusal_if_any (begin_sub_refusal t a) ≡ if_live h a (if_shallow h a)
  sub_is a = grind (arith, nat_tests, abort_is a, top_is, not_live h a, depth_in_rows t h is w a)

  -- an action can't end its siblings
  pub others_is : (a : ℕ) → journal_refusal_if_any (abort_others_refusal t a) ≡ if_free h a (if_created h a)
  others_is a = grind (arith, nat_tests, commit_is a, not_live h a, under_none_is t h is w a, under_is t h is w a)
