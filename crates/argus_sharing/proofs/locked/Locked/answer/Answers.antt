-- The board goes on by what the call adds, so it follows the longer journal, and the seat counted the call.
use Rattle.std.proofs.Common.{ap, arith, ◌++◌, ◌+◌, ◌∙◌, ◌≡◌}
use Rattle.argus_entries.specs.Call.{plain_call}
use Rattle.argus_journal.specs.JournalView.{next_entry}
use Rattle.argus_sharing.proofs.Follow.{follows_call}
use Rattle.argus_sharing.proofs.locked.Locked.answer.Goals as goal

pub returns-clause-shared : goal.returns-clause-shared
returns-clause-shared g c =
    let inv = c.self.invariant in
    let was = c.self.inside.publishing in
    let now = c.answer.new.self in (
      c.journal.ensures.shared,
      follows_call g.N.Board.opening_contents was.guardian now.guardian (plain_call c.args.call)
          (was.board.published ++ was.board.pending) (now.board.published ++ now.board.pending)
          c.journal_is_legal.ensures.legal inv.2 c.in_ok-reply.ensures.made.0 c.in_ok-reply.ensures.made.1.1,
    )

pub invariant_of-self-2 : goal.invariant_of-self-2
invariant_of-self-2 g c =
    let inv = c.self.invariant in
    let made : next_entry c.answer.new.self.guardian ≡ next_entry c.self.inside.publishing.guardian + 1 =
    ap next_entry c.in_ok-reply.ensures.made.0 ∙ omega arith in
    (inv.0, omega (arith, made, inv.1, c.counted-at.ensures.total), (returns-clause-shared g c).1)
