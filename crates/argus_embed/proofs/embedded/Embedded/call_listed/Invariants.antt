-- So many calls stand for those that were made, each as demanded.
use Rattle.std.proofs.Common.{List, [], length, map, true, ◌≡◌, ◌≤◌}
use Rattle.argus_journal.specs.{Call.PlainCall, Reply.plain_reply}
use Rattle.argus_embed.specs.CallEach.{SayEach, after_nexts, are_met, replies_to}
use Rattle.argus_embed.proofs.embedded.Embedded.call_listed.Given as goal

abbrev pub invariant-loop-each : goal.invariant-loop-each
invariant-loop-each l =
    (calls : List PlainCall) × SayEach l.fn.self.journal [] l.calls calls × (l.self ≡ after_nexts l.fn.self calls)
    × (map plain_reply l.replies.items ≡ replies_to l.fn.self.journal calls) × (length calls ≡ l.each-index)
    × (length l.replies.items ≡ l.each-index) × (are_met l.calls (replies_to l.fn.self.journal calls) ≡ true)
    × (length l.calls ≤ l.replies.cap)
