-- So many are told of.
use Rattle.std.proofs.Common.{length, map, take, ◌≡◌}
use Rattle.argus_journal.specs.Reply.{plain_reply}
use Rattle.argus_embed.specs.CallEach.{with_outcomes}
use Rattle.argus_embed.proofs.outcome_writing.write_outcomes.Given as goal

abbrev pub invariant-loop-at : goal.invariant-loop-at
invariant-loop-at l =
    (l.calls ≡ with_outcomes l.initial.calls (take l.at (map plain_reply l.replies)))
    × (length l.calls ≡ length l.initial.calls)
