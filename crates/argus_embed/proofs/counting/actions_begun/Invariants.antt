-- The number is from the one bound to the other.
use Rattle.std.proofs.Common.{◌-◌, ◌≤◌}
use Rattle.argus_journal.specs.JournalFacts.{next_action_number}
use Rattle.argus_values.specs.contents_declared.limits.TheConstants.{MAX_ACTIONS}
use Rattle.argus_embed.proofs.counting.actions_begun.Given as goal

abbrev pub invariant-loop-low : goal.invariant-loop-low
invariant-loop-low l = record {
  low : l.low ≤ next_action_number l.guardian.opening l.guardian.entries;
  high : next_action_number l.guardian.opening l.guardian.entries ≤ l.high;
  most : l.high ≤ MAX_ACTIONS;
}

abbrev pub decreases-loop-low : goal.decreases-loop-low
decreases-loop-low l = l.high - l.low
