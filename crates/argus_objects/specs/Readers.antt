-- What contracts see of a cell's list of readers.
use Rattle.std.specs.Prelude.{◌≡◌, ℕ, ◌+◌, ◌<◌, ◌≤◌, true, false, List, ◌∷◌, ◌++◌, length, take, drop, slice_index_or}
use Rattle.std.specs.{Prelude.refl, Coded.{Coded, code_by, coded×, coded_ℕ, coded_list}}
use Rattle.argus_actions.specs.declared.action_id.ActionId.{ActionId}
use Rattle.argus_objects.specs.{Object.action_coded, CellChanges.{is_reader, with_reader, without_reader}}

-- the readers in increasing number, and room for how many more there is
pub record ReaderList : Type 0 where
  pub items : List ActionId
  pub room : ℕ

-- they are stored as the list and the room
abbrev pub reader_list_coded : Coded ReaderList
reader_list_coded =
    code_by (List ActionId × ℕ) (coded× (coded_list action_coded) coded_ℕ) (λ r. (r.items, r.room))
    (λ p. record { items = p.0; room = p.1 }) (λ _. refl)

-- the action is a reader, in this place
pub record StandsAt (a : ActionId) (readers : List ActionId) (at : ℕ) : Type 0 where
  pub bound : at < length readers
  pub here : (other : ActionId) → (slice_index_or readers at other).0 ≡ a.0
  pub is : is_reader a readers ≡ true
  pub same : with_reader a readers ≡ readers
  pub left : without_reader a readers ≡ take at readers ++ drop (at + 1) readers

-- the action isn't a reader, and would be put in this place
pub record GoesTo (a : ActionId) (readers : List ActionId) (at : ℕ) : Type 0 where
  pub bound : at ≤ length readers
  pub is : is_reader a readers ≡ false
  pub put : with_reader a readers ≡ take at readers ++ a ∷ drop at readers
  pub same : without_reader a readers ≡ readers
