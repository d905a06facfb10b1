-- What a call does to the objects on a list, and to the others.
use Rattle.std.specs.{List.{IsDistinct, list_any}, Option.unwrap_or}
use Rattle.std.specs.Prelude.{Bool, List, Option, false, filter, length, not, slice_index_or, true, ℕ, ◌<◌, ◌==◌, ◌≡◌}
use Rattle.argus_actions.specs.{Tree.Tree, declared.action_id.ActionId.ActionId}
use Rattle.argus_contents.specs.{Content.PlainContent, declared.obj_id.ObjId.ObjId}
use Rattle.argus_core.specs.declared.engine.atomic_object.AtomicObject.{AtomicObject}
use Rattle.argus_objects.specs.CellChanges.{readers_inherited, version_of, versions_inherited, with_reader}
use Rattle.argus_objects.specs.{CellChanges.{with_version, without_reader, without_version}, Object.Object}
use Rattle.argus_objects.specs.Rules.{is_lawful}

-- the number is on the list
abbrev pub is_listed : List ObjId → ℕ → Bool
is_listed list o = list_any (λ x. x.0 == o) list

-- the parent p has taken the place of a
pub record IsInherited (t : Tree) (a p : ActionId) (old new : Object) : Type 0 where
  pub base : new.base ≡ old.base
  pub readers : new.readers ≡ readers_inherited a p old.readers
  pub versions : new.versions ≡ versions_inherited a p old.versions
  pub lawful : is_lawful t new ≡ true

-- a's version, if it has one, is the base, and a holds nothing
pub record IsSettled (t : Tree) (a : ActionId) (old new : Object) : Type 0 where
  pub base : new.base ≡ unwrap_or (version_of a old.versions) old.base
  pub readers : new.readers ≡ without_reader a old.readers
  pub versions : new.versions ≡ without_version a old.versions
  pub lawful : is_lawful t new ≡ true

-- those that pass the test hold nothing
pub record IsEnded (t : Tree) (ended : ℕ → Bool) (old new : Object) : Type 0 where
  pub base : new.base ≡ old.base
  pub readers : new.readers ≡ filter (λ x. not (ended x.0)) old.readers
  pub versions : new.versions ≡ filter (λ v. not (ended v.holder.0)) old.versions
  pub lawful : is_lawful t new ≡ true

-- a is a reader
pub record IsRead (t : Tree) (a : ActionId) (old new : Object) : Type 0 where
  pub base : new.base ≡ old.base
  pub readers : new.readers ≡ with_reader a old.readers
  pub versions : new.versions ≡ old.versions
  pub lawful : is_lawful t new ≡ true

-- a's version has this content
pub record IsWritten (t : Tree) (a : ActionId) (content : Option PlainContent)
    (old new : Object) : Type 0 where
  pub base : new.base ≡ old.base
  pub readers : new.readers ≡ old.readers
  pub versions : new.versions ≡ with_version a content old.versions
  pub lawful : is_lawful t new ≡ true

-- R, or unchanged
abbrev pub ChangedIf : Bool → (Object → Object → Type 0) → Object → Object → Type 0
ChangedIf true R old new = R old new
ChangedIf false R old new = new ≡ old

-- the object of this number, after R came to those on the list
pub record IsChanged (R : Object → Object → Type 0) (list : List ObjId)
    (old new : List AtomicObject) (o : ℕ) (d : AtomicObject) : Type 0 where
  pub shape : (slice_index_or new o d).shape ≡ (slice_index_or old o d).shape
  pub cell : ChangedIf (is_listed list o) R (slice_index_or old o d).cell
      (slice_index_or new o d).cell

-- all objects, after R came to those on the list
pub record AreChanged (R : Object → Object → Type 0) (list : List ObjId)
    (old new : List AtomicObject) : Type 0 where
  pub count : length new ≡ length old
  pub each : (o : ℕ) (d : AtomicObject) → o < length old → IsChanged R list old new o d

-- each number on the list has an object
abbrev pub AreThere : List ObjId → ℕ → Type 0
AreThere list n = (o : ℕ) → is_listed list o ≡ true → o < n

-- each cell is lawful
abbrev pub AreLawful : Tree → List AtomicObject → Type 0
AreLawful t objects = (o : ℕ) (d : AtomicObject) → o < length objects
    → is_lawful t (slice_index_or objects o d).cell ≡ true

-- each cell is lawful, and the list names objects, each once
pub record CanVisit (t : Tree) (objects : List AtomicObject) (list : List ObjId) : Type 0 where
  pub lawful : AreLawful t objects
  pub there : AreThere list (length objects)
  pub once : IsDistinct (λ x y. x.0 == y.0) list
