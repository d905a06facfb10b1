-- A cell in the terms of the history. The program's action a is a + 1 there.
use Rattle.std.specs.Prelude.{List, Option, [], map, reverse, true, ℕ, ◌+◌, ◌++◌, ◌∷◌, ◌≡◌}
use Rattle.argus_actions.specs.{Tree.Tree, declared.action_id.ActionId.ActionId}
use Rattle.argus_contents.specs.Content.{PlainContent}
use Rattle.argus_entries.specs.Entry.{PlainEntry}
use Rattle.argus_journal.specs.{Entries.entries, Opening.{Opening, model_opening}}
use Rattle.argus_model.specs.{Contents.{base, sees}, History.History, Holders.{readers, writers}, Numbers.contains}
use Rattle.argus_objects.specs.{CellChanges.has_version, Object.{Object, PlainVersion, holders}, Rules.is_lawful}

-- these actions as the history numbers them
abbrev pub history_numbers : List ActionId → List ℕ
history_numbers ids = map (λ x. x.0 + 1) ids

-- each version is what its holder sees
abbrev pub AreSeen : Opening → History PlainEntry → ℕ → List PlainVersion → Type 0
AreSeen s h o [] = Unit {0}
AreSeen s h o (v ∷ older) =
    (v.content ≡ sees entries (model_opening s) h (v.holder.0 + 1) o) × AreSeen s h o older

-- the cell has the base, the readers and the versions that the history gives the object, and is
-- lawful
pub record IsCell (s : Opening) (h : History PlainEntry) (tree : Tree) (o : ℕ)
    (cell : Object) : Type 0 where
  pub lawful : is_lawful tree cell ≡ true
  pub base : cell.base ≡ base entries (model_opening s) h o
  pub readers : history_numbers cell.readers ≡ readers entries h o
  pub writers : (x : ActionId) → has_version x cell.versions
      ≡ contains (writers entries h o) (x.0 + 1)
  pub seen : AreSeen s h o cell.versions

-- the versions from ancestor to descendant, each with the number of its holder
abbrev pub numbered_versions : List PlainVersion → List (ℕ × Option PlainContent)
numbered_versions [] = []
numbered_versions (v ∷ older) = numbered_versions older ++ (v.holder.0, v.content) ∷ []

-- the holders of versions from ancestor to descendant, as the history numbers them
abbrev pub stack : List PlainVersion → List ℕ
stack vs = history_numbers (reverse (holders vs))
