-- So many places have been taken.
use Rattle.std.proofs.Common.{length, ◌≡◌}
use Rattle.std.specs.Prelude.{All}
use Rattle.argus_sharing.proofs.sharing_start.lookers_at.Given as goal

abbrev pub invariant-loop-i : goal.invariant-loop-i
invariant-loop-i g l =
    All (λ k. k ≡ g.N.Board.before) l.lookers.items × (length l.lookers.items ≡ l._i)
    × (l.board.published ≡ l.initial.board.published) × (l.board.pending ≡ l.initial.board.pending)
