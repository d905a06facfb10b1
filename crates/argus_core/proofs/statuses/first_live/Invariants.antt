-- None of those so far is live.
use Rattle.std.proofs.Common.{false, ℕ, ◌<◌, ◌≡◌, ◌≤◌}
use Rattle.argus_actions.specs.Rows.{is_live_at}
use Rattle.argus_core.proofs.statuses.first_live.Given as goal

abbrev pub invariant-loop-a : goal.invariant-loop-a
invariant-loop-a l = (x : ℕ) → l.from ≤ x → x < l.a → is_live_at l.tree.folded l.tree.rows x ≡ false
