-- The calls so far have the replies so far, and those that are left go on from there.
use Rattle.std.proofs.Common.{drop, length, map, ◌++◌, ◌+◌, ◌≡◌, ℕ, ◌≤◌}
use Rattle.argus_board.specs.BoardView.{BoardView}
use Rattle.argus_entries.specs.Reply.{plain_reply}
use Rattle.argus_sharing.specs.CallEach.{added_by_calls, after_calls, end_of, replies_of}
use Rattle.argus_sharing.specs.Following.{FollowsJournal, GoesOn, IsSharedJournal}
use Rattle.argus_sharing.proofs.locked.Locked.call_each.Given as goal

abbrev pub invariant-loop-each : goal.invariant-loop-each
invariant-loop-each g l =
    (map plain_reply l.replies.items ++ replies_of l.self.journal (drop l.each-index l.calls)
    ≡ replies_of l.initial.self.journal l.calls)
    × (end_of l.self.journal (drop l.each-index l.calls) ≡ end_of l.initial.self.journal l.calls)
    × (length l.replies.items ≡ l.each-index)
    × ((n : ℕ) → after_calls l.initial.self.journal l.calls (l.each-index + n)
    ≡ after_calls l.self.journal (drop l.each-index l.calls) n)
    × (l.seat.made ≡ l.initial.seat.made + l.each-index)
    × (length l.calls ≤ l.replies.cap)
    × IsSharedJournal g.N.Sharing.start l.self.journal
    × FollowsJournal g.N.Board.opening_contents l.self.journal (l.self.board.published ++ l.self.board.pending)
    × ((n : ℕ) (now : BoardView) → GoesOn l.self.board now (added_by_calls l.self.journal (drop l.each-index l.calls) n)
    → GoesOn l.initial.self.board now (added_by_calls l.initial.self.journal l.calls (l.each-index + n)))
