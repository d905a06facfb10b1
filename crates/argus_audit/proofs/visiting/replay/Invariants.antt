-- The content so far is what the entries so far leave.
use Rattle.std.proofs.Common.{◌-◌, ◌≡◌}
use Rattle.argus_audit.specs.Places.{first_entries}
use Rattle.argus_contents.specs.Content.{plain_option}
use Rattle.argus_journal.specs.{Journal.{entries_of, opening_of}, Replaying.replayed}
use Rattle.argus_audit.proofs.visiting.replay.Given as goal

abbrev pub invariant-loop-place : goal.invariant-loop-place
invariant-loop-place l =
    let j = entries_of l.journal in
    plain_option l.content ≡ replayed (opening_of l.journal) j l.reader l.o.0 (first_entries j l.place)

abbrev pub decreases-loop-place : goal.decreases-loop-place
decreases-loop-place l = l.end - l.place
