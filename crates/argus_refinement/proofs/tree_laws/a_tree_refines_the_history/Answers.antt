-- The proof of what a tree tells.
use Rattle.std.proofs.Common.{List, Option, Some, ap, arith, refl, sym, true, ℕ, ◌+◌, ◌∙◌, ◌≡◌}
use Rattle.std.{proofs.lemmas.Bool.Decides.nat_tests, specs.Option.option_map}
use Rattle.argus_actions.specs.{Rows.under_at, Tree.{Tree, parent_of}, declared.action_id.ActionId.ActionId}
use Rattle.argus_entries.specs.Entry.{PlainEntry}
use Rattle.argus_journal.{proofs.Legal.lawful, specs.{Events.history, Legal.Legal, Numbering.unless_base}}
use Rattle.argus_journal.specs.{Opening.Opening, JournalFacts.{begun_by_in, parent_in}}
use Rattle.argus_refinement.proofs.{CellHolders.orderly, TreeAnswers.{ancestor_is, child_is, creator_is, depth_of_is}}
use Rattle.argus_refinement.proofs.TreeAnswers.{live_is, next_is, no_parent_is, parent_is, status_is, under_is}
use Rattle.argus_refinement.{proofs.TreeAnswers.under_none_is, specs.TreeRefinement.IsTree}
use Rattle.argus_model.{proofs.Standing.Orderly, specs.Status.is_begun}
use Rattle.argus_refinement.proofs.tree_laws.a_tree_refines_the_history.Goals as goal

now : (s : Opening) (j : List PlainEntry) → Legal s j → Orderly (history s j)
now s j l = orderly s (history s j) (lawful s j l)

above_base : (n : ℕ) → unless_base (n + 1) ≡ Some n
above_base n = grind (arith, nat_tests)

parent_told : (t : Tree) (s : Opening) (j : List PlainEntry) (a : ℕ) → Legal s j → IsTree t (history s j)
    → is_begun (history s j) (a + 1) ≡ true → (q : Option ActionId) → parent_of t a ≡ q
    → option_map (λ (p : ActionId). p.0) q ≡ parent_in s j a
parent_told t s j a l is b q e = grind (arith, nat_tests, no_parent_is, now, parent_is, above_base)

begun_by_told : (t : Tree) (s : Opening) (j : List PlainEntry) (a : ℕ) → Legal s j → IsTree t (history s j)
    → is_begun (history s j) (a + 1) ≡ true → (q : Option ℕ) → under_at t.folded t.rows a ≡ q → q ≡ begun_by_in s j a
begun_by_told t s j a l is b q e = grind (arith, nat_tests, under_none_is, now, under_is, above_base)

pub returns : goal.returns
returns c = record {
  next = λ t s j l is. let e = next_is t (history s j) is (now s j l) in omega (arith, e);
  live = λ t s j a l is. sym (live_is t (history s j) is (now s j l) a);
  ancestor = λ t s j x a l is. ancestor_is t (history s j) is (now s j l) x a;
  parent = λ t s j a l is b. parent_told t s j a l is b (parent_of t a) refl;
  creator = λ t s j a c l is b e. ap unless_base (creator_is t (history s j) is (now s j l) a c b e) ∙ above_base c.0;
  begun_by = λ t s j a l is b. begun_by_told t s j a l is b (under_at t.folded t.rows a) refl;
  child = λ t s j a l is. child_is t (history s j) is (now s j l) a;
  depth = λ t s j a l is b. depth_of_is t (history s j) is (now s j l) a b;
  status = λ t s j a l is b. status_is t (history s j) is (now s j l) a b;
}
