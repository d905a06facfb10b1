-- A tree in which the calls of a legal journal are made again has the rows of its history.
use Rattle.std.proofs.Common.{arith, Bool, List, None, Option, Some, ap, subst, sym, ℕ, ◌+◌, ◌∙◌, ◌∷◌, ◌≡◌, ◌≢◌}
use Rattle.std.{proofs.lemmas.Bool.Decides.nat_tests, specs.Option.{is_none, option_or}}
use Rattle.argus_actions.specs.{Refusals.{abort_others_refusal, commit_refusal, refused_if}, Rows.under_at}
use Rattle.argus_actions.specs.Tree.{SameActions, Tree, after_abort_others}
use Rattle.argus_actions.specs.declared.action_refusal.ActionRefusal.{ActionRefusal, TheVariants.NoSiblings}
use Rattle.argus_actions.specs.declared.origin.Origin.TheVariants.{Nested, Sub, Top}
use Rattle.argus_audit.specs.Retracing.{Retraced, Step}
use Rattle.argus_contents.specs.Shape.{PlainShape}
use Rattle.argus_entries.specs.Call.{PlainCall, abort, abort_others, begin_nested, begin_sub, begin_top, commit}
use Rattle.argus_entries.specs.{Call.declare, Entry.PlainEntry}
use Rattle.argus_journal.specs.{Answers.{answer, granted, if_created, refusal}, Entries.entries, Events.event_if}
use Rattle.argus_journal.specs.{Events.{history, with_event}, Legal.Legal, Objects.shapes, Opening.Opening}
use Rattle.argus_journal.{specs.Opening.model_opening, proofs.Legal.{free_none, lawful, refused_is_none, then_event}}
use Rattle.argus_model.{specs.{Event.Accessed, History.History}, proofs.{Lawful.lawful_orderly, Siblings.live_begun}}
use Rattle.argus_model.proofs.Standing.{Orderly}
use Rattle.argus_refinement.{specs.TreeRefinement.{IsTree, journal_refusal_if_any}, proofs.TreeRefusals.abort_is}
use Rattle.argus_refinement.proofs.TreeRefusals.{commit_is, nested_is, others_is, sub_is, top_is}
use Rattle.argus_refinement.proofs.TreeSteps.{abort_others_tree, abort_tree, begin_tree, commit_tree, same_tree}

-- what the tree's calls say is a step

-- who has a sibling was begun by somebody
found_under : (q : Option ActionRefusal) (u : Option ℕ) → option_or q (refused_if (is_none u) NoSiblings) ≡ None
    → (k : ℕ) × (u ≡ Some k)
found_under q u e = grind (arith, nat_tests)

module _ (s : Opening) (older : List PlainEntry) (l : Legal s older) (t : Tree) (is : IsTree t (history s older)) where
  abbrev h : History PlainEntry
  h = history s older

  abbrev objects : List PlainShape
  objects = shapes s older

  orderly : Orderly h
  orderly = lawful_orderly entries (model_opening s) h (lawful s older l)

  -- a call that the tree refuses as the journal does
  stepped : (c : PlainCall) (q : Option ActionRefusal) (made u : Tree) → journal_refusal_if_any q ≡ refusal h objects c
      → (q ≡ None → IsTree made (then_event c (granted s h objects c) h)) → Step q made t u
      → IsTree u (then_event c (answer s older c) h)
  stepped c q made u e makes step = grind (arith, nat_tests, then_event, same_tree, refused_is_none)

  accessed : (b : Bool) (a o : ℕ) (e : PlainEntry) (u : Tree) → SameActions t u
      → IsTree u (with_event (event_if b (Accessed a o e)) h)
  accessed b a o e u same = grind (arith, nat_tests, same_tree)

  others : (a : ℕ) → abort_others_refusal t a ≡ None
      → IsTree (after_abort_others t a) (then_event (abort_others a) (granted s h objects (abort_others a)) h)
  others a e =
      let under = found_under (commit_refusal t a) (under_at t.folded t.rows a) e in
      let none : refusal h objects (abort_others a) ≡ None =
      sym (others_is t h is orderly a) ∙ ap journal_refusal_if_any e in
      let free = free_none h a (if_created h a) none in
      abort_others_tree t h is orderly a under.0 (live_begun h (a + 1) free.live) under.1

  retraced : (c : PlainCall) (u : Tree) → Retraced c t u → IsTree u (then_event c (answer s older c) h)
  retraced begin_top u k = stepped begin_top _ _ u (top_is t h is orderly) (λ _. begin_tree t h is Top) k
  retraced (begin_sub p) u k =
      stepped (begin_sub p) _ _ u (sub_is t h is orderly p) (λ _. begin_tree t h is (Sub p)) k
  retraced (begin_nested p) u k =
      stepped (begin_nested p) _ _ u (nested_is t h is orderly p) (λ _. begin_tree t h is (Nested p)) k
  retraced (commit a) u k = stepped (commit a) _ _ u (commit_is t h is orderly a) (λ _. commit_tree t h is a) k
  retraced (abort a) u k = stepped (abort a) _ _ u (abort_is t h is orderly a) (λ _. abort_tree t h is a) k
  retraced (abort_others a) u k = stepped (abort_others a) _ _ u (others_is t h is orderly a) (others a) k
  retraced (declare shape) u k = same_tree t u h k is
  retraced _ u k = accessed _ _ _ _ u k

pub entry_retraced : (s : Opening) (e : PlainEntry) (older : List PlainEntry) → Legal s (e ∷ older) → (t u : Tree)
    → IsTree t (history s older) → Retraced e.call t u → IsTree u (history s (e ∷ older))
entry_retraced s e older l t u is k =
    subst (λ r. IsTree u (then_event e.call r (history s older))) (sym l.0) (retraced s older l.1 t is e.call u k)
