-- The history of effects: a list of pages, each of which uses up one right and names the next. So
-- only the holder of a line's newest right can add to that line.
use Rattle.std.specs.Prelude.{Bool, List, [], false, fold, length, true, ℕ, ◌++◌, ◌<◌, ◌==◌, ◌∷◌, ◌≡◌, ◌≢◌}
use mathlib.Core.List.{IsPrefix}
use Rattle.logbook.specs.Pages.{Book, Cell, Named, Step, View, cell, may_make}
use Rattle.argus_contents.specs.Effect.{Effect}
use Rattle.argus_board.specs.declared.page.Page.{Page}

-- the rights that these pages used up are used up
abbrev pub AreUsed : List Cell → List Page → Type 0
AreUsed cells [] = Unit {0}
AreUsed cells (page ∷ pages) = ((cell cells page.uses).1 ≡ true) × AreUsed cells pages

-- what holds of the history at every moment: its first word is at home, and rights are used up
pub record IsKept (cells : List Cell) (pages : List Page) : Type 0 where
  pub head : (0 < length cells) × ((cell cells 0).1 ≡ true)
  pub used : AreUsed cells pages

-- the first word of a book
abbrev pub head_of : Book → Named
head_of book = record { tracked = true; key = 0; book = book }

-- no page used up the right
abbrev pub IsUnused : ℕ → List Page → Type 0
IsUnused right [] = Unit {0}
IsUnused right (page ∷ pages) = (page.uses ≢ right) × IsUnused right pages

-- after a page that used up the line's right, its next right, and its effects with the page's
abbrev pub after_page_if : Bool → ℕ × List Effect → Page → ℕ × List Effect
after_page_if true line page = (page.gives, line.1 ++ page.effects)
after_page_if false line page = line

-- a page belongs to the line whose right it used up
abbrev pub after_page : ℕ × List Effect → Page → ℕ × List Effect
after_page line page = after_page_if (line.0 == page.uses) line page

-- the line that begins with this right: its next right, and its effects
abbrev pub line_state : ℕ → List Page → ℕ × List Effect
line_state root pages = fold after_page (root, []) pages

-- the right that comes next in the line
abbrev pub next_right : ℕ → List Page → ℕ
next_right root pages = (line_state root pages).0

-- the effects of the line
abbrev pub line : ℕ → List Page → List Effect
line root pages = (line_state root pages).1

-- a step that makes a right
abbrev pub Grows : Step Page → View Page ℕ → ℕ → View Page ℕ → Type 0
Grows step before found after = after.1.0.right ≡ may_make

-- a step that adds a page, which uses up the right
abbrev pub Adds : Step Page → View Page ℕ → ℕ → View Page ℕ → Type 0
Adds step before found after = (pages : List Page)
    × (after.0 ≡ pages
    ++ record { uses = before.1.0.key; gives = step.ask.gives; effects = step.ask.effects } ∷ [])
    × IsPrefix before.0 pages × IsUnused before.1.0.key pages

-- a step that sees that no page used up the right
abbrev pub SeesUnused : Step Page → View Page ℕ → ℕ → View Page ℕ → Type 0
SeesUnused step before found after = (after.1.0 ≡ before.1.0) × IsUnused before.1.0.key after.0
