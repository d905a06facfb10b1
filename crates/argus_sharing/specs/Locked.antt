-- The value behind the mutex, as contracts see it.
use Rattle.std.specs.{Coded.{Coded, code_by, coded×}, Prelude.refl}
use Rattle.argus_board.specs.BoardView.{BoardView, board_view_coded}
use Rattle.argus_journal.specs.JournalView.{JournalView, journal_view_coded}

-- the guardian's journal, and the board's effects: published and pending
pub record LockedState : Type 0 where
  pub journal : JournalView
  pub board : BoardView

-- both are stored
abbrev pub locked_state_coded : Coded LockedState
locked_state_coded =
    code_by (JournalView × BoardView) (coded× journal_view_coded board_view_coded) (λ s.
    (s.journal, s.board))
    (λ p. record { journal = p.0; board = p.1 }) (λ _. refl)
