-- What holds of an action that no refusal names.
use Rattle.std.proofs.Common.{arith, ◌≡◌, ℕ, ◌<◌, ◌≤◌, Bool, true, false, Option, Some, None}
use Rattle.std.{proofs.lemmas.Bool.Decides.nat_tests, specs.Option.option_or}
use Rattle.argus_actions.specs.declared.{action_refusal.ActionRefusal.ActionRefusal, status.Status.TheVariants.Live}
use Rattle.argus_actions.specs.{Row.Row, Rows.is_live_at, Tree.{Tree, next, row_of, status_of, has_live_child}}
use Rattle.argus_actions.{specs.Refusals.{unless_live, refused_if, commit_refusal}, proofs.RowsLemmas.row_begun}
use Rattle.argus_actions.proofs.InStep.{live_at, is_live_is}

-- where neither of two refusals comes, the first doesn't, nor the second
pub none_first : (x y : Option ActionRefusal) → option_or x y ≡ None → x ≡ None
none_first x y e = grind (arith)

pub none_second : (x y : Option ActionRefusal) → option_or x y ≡ None → y ≡ None
none_second x y e = grind (arith)

-- an action that is no reason to refuse has a row, which is live
pub live_row : (tree : Tree) (a : ℕ) → unless_live (status_of tree a) ≡ None
    → (row : Row) × ((row_of tree a ≡ Some row) × (row.status ≡ Live))
live_row tree a e = grind (arith, nat_tests)

-- a live action was begun, and is not folded
pub live_is_begun : (tree : Tree) (a : ℕ) → unless_live (status_of tree a) ≡ None → (tree.folded ≤ a) × (a < next tree)
live_is_begun tree a e = let found = live_row tree a e in row_begun tree.folded tree.rows a found.0 found.1.0

-- a test that refuses nothing is false
pub not_refused : (b : Bool) (refusal : ActionRefusal) → refused_if b refusal ≡ None → b ≡ false
not_refused b refusal e = grind (arith)

-- a live action's status, and its row
pub live_status : (tree : Tree) (a : ℕ) → is_live_at tree.folded tree.rows a ≡ true → status_of tree a ≡ Some Live
live_status tree a e = grind (arith, nat_tests, live_at, row_begun, is_live_is)

pub status_live : (tree : Tree) (a : ℕ) → status_of tree a ≡ Some Live → is_live_at tree.folded tree.rows a ≡ true
status_live tree a e = grind (arith, nat_tests, live_row)

-- whom nothing refuses is live
pub accepted_live : (tree : Tree) (a : ℕ) → unless_live (status_of tree a) ≡ None
    → is_live_at tree.folded tree.rows a ≡ true
accepted_live tree a e = grind (arith, nat_tests, live_row)

-- who may commit is live, and alone
pub commit_accepted : (tree : Tree) (a : ℕ) → commit_refusal tree a ≡ None
    → ((row : Row) → row_of tree a ≡ Some row → row.status ≡ Live) × (has_live_child tree a ≡ false)
commit_accepted tree a e = grind (arith, nat_tests, live_row, none_first, not_refused, none_second)
