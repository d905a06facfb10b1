-- What contracts say of a keeper.
use Rattle.std.specs.Prelude.{[], ℕ, ◌≡◌}
use Rattle.logbook.specs.Pages.{Book}
use Rattle.argus_board.specs.{History.next_right, HistoryPrefix.book_of, declared.keeper.Keeper.Keeper}

-- the book that has its history
abbrev pub history_of : Keeper → Book
history_of keeper = book_of keeper.front

-- the right that comes next in its line
abbrev pub next_right_of : Keeper → ℕ
next_right_of keeper = keeper.pen.nib.key

-- its right is the one that comes next in the line that begins with this right
abbrev pub HoldsNext : ℕ → Keeper → Type 0
HoldsNext root keeper = next_right_of keeper ≡ next_right root keeper.front.seen.log

-- its history has no effect yet
abbrev pub IsNew : Keeper → Type 0
IsNew keeper = keeper.front.seen.log ≡ []

-- it is new, and its history is in this book and begins with this right
abbrev pub StartsHistory : Book → ℕ → Keeper → Type 0
StartsHistory history root keeper =
    IsNew keeper × (history_of keeper ≡ history) × (next_right_of keeper ≡ root)
