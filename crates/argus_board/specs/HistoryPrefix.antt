-- What contracts say of a prefix of the history.
use Rattle.std.specs.Prelude.{List, ℕ}
use Rattle.logbook.specs.Pages.{Book}
use Rattle.argus_contents.specs.Effect.{Effect}
use Rattle.argus_board.specs.{History.line, declared.history_prefix.HistoryPrefix.HistoryPrefix}

-- the book that has it
abbrev pub book_of : HistoryPrefix → Book
book_of front = front.seen.book

-- its effects in the line that begins with this right
abbrev pub line_of : ℕ → HistoryPrefix → List Effect
line_of root front = line root front.seen.log
