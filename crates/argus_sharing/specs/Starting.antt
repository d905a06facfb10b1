-- What a sharing of a guardian starts with: which one it is.
use Rattle.std.specs.Prelude.{ℕ, ◌≡◌}
use Rattle.argus_board.specs.Keeper.{StartsHistory, history_of, next_right_of}
use Rattle.argus_board.specs.declared.{board.Board.Ghosts, keeper.Keeper.Keeper}
use Rattle.argus_journal.specs.{JournalView.{JournalView, next_entry}, Opening.content_in}
use Rattle.argus_sharing.specs.Following.{journal_bases, journal_effects}

-- The sharing starts with this journal: its receipts count from the next entry on, its board has what the
-- entries left, over the contents of the opening, and the keeper begins the board's history.
abbrev pub StartsWith : {N : Type 0} → Ghosts N → ℕ → JournalView → Keeper → Type 0
StartsWith board start journal keeper = StartsHistory board.history board.root keeper
    × (start ≡ next_entry journal) × (board.before ≡ journal_effects journal)
    × (board.opening_contents ≡ content_in journal.opening.objects)
    × (board.first ≡ journal_bases journal)

-- its board, with places for so many lookers
abbrev pub board_with : {N : Type 0} → Keeper → ℕ → JournalView → Ghosts N
board_with keeper places journal = record {
  history = history_of keeper;
  root = next_right_of keeper;
  places = places;
  opening_contents = content_in journal.opening.objects;
  before = journal_effects journal;
  first = journal_bases journal;
}
