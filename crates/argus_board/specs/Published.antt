-- The rule of the board: what a place knows is the list of effects that it saw.
use Rattle.std.specs.Prelude.{List, Option, [], drop, ℕ, ◌++◌, ◌∷◌, ◌≡◌}
use mathlib.Core.List.{IsPrefix}
use mathlib.Core.Option.{some}
use lib.ListN.{get_elem?}
use Rattle.left_right.specs.{Sides.view, declared.Absorb.Ghosts, declared.writer.Writer.Writer}
use Rattle.logbook.specs.Pages.{Book}
use Rattle.argus_contents.specs.{Content.PlainContent, Effect.{Effect, plain_effect}}
use Rattle.argus_board.specs.{Effects.{contents_after, overwritten, plain_contents}, HistoryPrefix.{book_of, line_of}}
use Rattle.argus_board.specs.{declared.board_change.BoardChange.BoardChange, declared.table.Table.Table}
use Rattle.argus_board.specs.declared.board_change.BoardChange.TheVariants.{Leaves, Marks}
use Rattle.argus_board.specs.declared.history_prefix.HistoryPrefix.{HistoryPrefix}

-- the contents that a table says
abbrev pub contents_of : Table → List (Option PlainContent)
contents_of table = plain_contents table.contents.items

-- what the two copies of a table have in common: the contents, and how far the history had come
abbrev pub table_state : Table → List (Option PlainContent) × HistoryPrefix
table_state table = (contents_of table, table.front)

-- contents and front after a change
abbrev pub absorbed : List (Option PlainContent) × HistoryPrefix → BoardChange
    → List (Option PlainContent) × HistoryPrefix
absorbed state (Leaves effect) = (overwritten state.0 (plain_effect effect.items), state.1)
absorbed state (Marks front) = (state.0, front)

-- the effects among changes
abbrev pub effects_in : List BoardChange → List Effect
effects_in [] = []
effects_in (Leaves effect ∷ changes) = plain_effect effect.items ∷ effects_in changes
effects_in (Marks front ∷ changes) = effects_in changes

module _ {V P A S : Type 0} {g : Ghosts Table BoardChange S} where
  -- the table that readers see
  abbrev pub shown_table : Writer Table BoardChange V P A S g → Table
  shown_table writer = writer.desk.shown.value

  -- the effects of the line that readers see
  abbrev pub shown_effects : ℕ → Writer Table BoardChange V P A S g → List Effect
  shown_effects root writer = line_of root (shown_table writer).front

  -- the changes that readers don't see yet
  abbrev pub unseen : Writer Table BoardChange V P A S g → List BoardChange
  unseen writer = drop writer.behind writer.log.items

  -- the effects that readers don't see yet
  abbrev pub unseen_effects : Writer Table BoardChange V P A S g → List Effect
  unseen_effects writer = effects_in (unseen writer)

  -- what the writer's own place saw
  abbrev pub seen_by : Writer Table BoardChange V P A S g → V
  seen_by writer = view writer.desk.place

  -- readers see what they saw, and the same is left to be shown
  abbrev pub IsSameShow : (was now : Writer Table BoardChange V P A S g) → Type 0
  IsSameShow was now = (seen_by now ≡ seen_by was) × (shown_table now ≡ shown_table was)
      × (unseen now ≡ unseen was)

module _ {P A S : Type 0} {g : Ghosts Table BoardChange S} (first : List (Option PlainContent))
    (root : ℕ) where
  -- the tables of a board whose line has these effects: what was seen, the contents, and what is left
  abbrev pub AreTables : List Effect → Writer Table BoardChange (List Effect) P A S g → Type 0
  AreTables known writer = (seen_by writer ≡ shown_effects root writer)
      × (contents_of (shown_table writer) ≡ contents_after first (shown_effects root writer))
      × (shown_effects root writer ++ unseen_effects writer ≡ known)
      × (unseen_effects writer ≡ [] → unseen writer ≡ [])

  -- readers see all of this prefix of the history, and nothing is left to be shown
  abbrev pub ShowsAll : HistoryPrefix → Writer Table BoardChange (List Effect) P A S g → Type 0
  ShowsAll front writer = (seen_by writer ≡ line_of root front)
      × (contents_of (shown_table writer) ≡ contents_after first (line_of root front))
      × ((shown_table writer).front ≡ front) × (unseen writer ≡ [])

-- each place saw a prefix of these effects
abbrev pub AllBegin : List Effect → List (List Effect) → Type 0
AllBegin effects views =
    (place : ℕ) (view : List Effect) → get_elem? views place ≡ some view → IsPrefix view effects

-- the table has the contents that its effects leave, and its history is in the board's own book
abbrev pub FitsTable : List (Option PlainContent) → Book → ℕ → Table → Type 0
FitsTable first own root table =
    (contents_of table ≡ contents_after first (line_of root table.front)) × (book_of table.front ≡ own)

-- the rule: the table has the contents of its effects, and each place saw a prefix of these
abbrev pub IsConsistentTable : List (Option PlainContent) → Book → ℕ → Table → List (List Effect)
    → Type 0
IsConsistentTable first own root table views =
    FitsTable first own root table × AllBegin (line_of root table.front) views

-- what a place knows after it has seen w: what it has seen stays seen
abbrev pub joined_view : List Effect → List Effect → List Effect
joined_view [] w = w
joined_view (e ∷ v) w = e ∷ v

-- a step after which a place has seen all the effects of the table that it ends with
abbrev pub SeesPublished : List (Option PlainContent) → Book → ℕ → List Effect → Table → Table
    → List Effect → Type 0
SeesPublished first own root before from to after =
    IsPrefix before after × (after ≡ line_of root to.front) × FitsTable first own root to
