-- Why an access is refused, from the state; what a granted one needs, and what it does.
use Rattle.std.specs.{Option.option_or, Prelude.{◌<◌, ◌||◌, ◌∷◌, ◌≡◌}}
use Rattle.std.specs.Prelude.{Bool, List, None, Option, Some, [], length, not, slice_get, slice_index_or, true, ℕ, ◌+◌}
use Rattle.argus_actions.specs.{Refusals.commit_refusal, Tree.Tree, declared.action_id.ActionId.ActionId}
use Rattle.argus_contents.specs.{Change.PlainChange, Content.{KeepsLimits, PlainContent}, Shape.PlainShape}
use Rattle.argus_contents.specs.declared.obj_id.ObjId.{ObjId}
use Rattle.argus_entries.specs.{Entry.PlainEntry, declared.refusal.Refusal.Refusal}
use Rattle.argus_entries.specs.declared.refusal.Refusal.TheVariants.{Conflict, IllTyped, NoObject}
use Rattle.argus_core.specs.Moving.{AreChanged, AreLawful, IsWritten, is_listed}
use Rattle.argus_core.specs.declared.engine.atomic_object.AtomicObject.{AtomicObject}
use Rattle.argus_core.specs.declared.engine.guardian_state.GuardianState.{GuardianState}
use Rattle.argus_journal.specs.{Answers.unless, Entries.is_write, Events.happens, LegalJournal.{entries_in, opening_in}}
use Rattle.argus_journal.specs.Objects.{declared_by}
use Rattle.argus_model.specs.Event.{Accessed}
use Rattle.argus_refinement.specs.TreeRefinement.{journal_refusal_if_any}
use Rattle.argus_objects.specs.Holdings.{Lists, SameLists, holdings_room_of, noted, objects_held_by}
use Rattle.argus_objects.specs.{CellChanges.{changed, has_version, is_reader}, Object.{Object, SameLocks}}
use Rattle.argus_objects.specs.{Rules.{may_read, may_write, visible_content}, declared.holdings.Holdings.Holdings}

-- why the object that was found refuses an access: its shape doesn't suit, or the lock isn't free
abbrev pub refused_at : Option AtomicObject → (PlainShape → Bool) → (Object → Bool) → Option Refusal
refused_at None suits free = Some NoObject
refused_at (Some object) suits free =
    unless (suits object.shape) IllTyped (unless (free object.cell) Conflict None)

-- why an access is refused: the action may not act, or the object refuses it
abbrev pub access_refusal : Tree → List AtomicObject → ℕ → ℕ → (PlainShape → Bool) → (Object → Bool)
    → Option Refusal
access_refusal t objects a o suits free =
    option_or (journal_refusal_if_any (commit_refusal t a)) (refused_at
    (slice_get objects o) suits free)

-- the object is new to the action's list, which has room for it, or it is on the list
pub record HasListRoom (holdings : Holdings) (a : ActionId) (o : ObjId)
    (is_new : Bool) : Type 0 where
  pub listed : is_listed (objects_held_by holdings a) o.0 ≡ not is_new
  pub room : is_new ≡ true → 0 < holdings_room_of holdings a

-- the object's cell has room for one more reader, and the action's list for the object
pub record HasReadRoom (objects : List AtomicObject) (holdings : Holdings)
    (a : ActionId) (o : ObjId) (is_new : Bool) : Type 0 where
  pub cell : (d : AtomicObject) → 0 < (slice_index_or objects o.0 d).cell.reader_room
  pub list : HasListRoom holdings a o is_new

-- the action's list has the object exactly if the action holds it
abbrev pub IsListedIfHeld : List AtomicObject → Holdings → ActionId → ObjId → Type 0
IsListedIfHeld objects holdings a o =
    (d : AtomicObject) → is_listed (objects_held_by holdings a) o.0
    ≡ (is_reader a (slice_index_or objects o.0 d).cell.readers
    || has_version a (slice_index_or objects o.0 d).cell.versions)

-- the action may act, the object is there, and its lock is free
pub record IsFree (tree : Tree) (objects : List AtomicObject) (a : ActionId) (o : ObjId)
    (free : Object → Bool) : Type 0 where
  pub accepted : commit_refusal tree a.0 ≡ None
  pub low : o.0 < length objects
  pub opens : (d : AtomicObject) → free (slice_index_or objects o.0 d).cell ≡ true

-- what the action sees in the object of this number
abbrev pub seen_at : Tree → ActionId → List AtomicObject → ℕ → AtomicObject → Option PlainContent
seen_at t a objects o d =
    visible_content t a (slice_index_or objects o d).cell.base
    (slice_index_or objects o d).cell.versions

-- the action may read the object, and what it sees there keeps the limits
pub record CanAsk (tree : Tree) (objects : List AtomicObject) (a : ActionId) (o : ObjId) : Type 0 where
  pub free : IsFree tree objects a o (λ cell. may_read tree cell a)
  pub limits : (d : AtomicObject) → KeepsLimits (seen_at tree a objects o.0 d)

-- each cell is lawful, the action may write the object, what it sees there keeps the limits, and its
-- list has the object exactly if it holds it
pub record CanAlter (tree : Tree) (objects : List AtomicObject) (holdings : Holdings)
    (a : ActionId) (o : ObjId) : Type 0 where
  pub lawful : AreLawful tree objects
  pub free : IsFree tree objects a o (λ cell. may_write tree cell a)
  pub limits : (d : AtomicObject) → KeepsLimits (seen_at tree a objects o.0 d)
  pub listed : IsListedIfHeld objects holdings a o

-- the entry is an access of a at o, which needs a write lock or not
pub record IsAccessEntry (state : GuardianState) (e : PlainEntry) (a : ActionId) (o : ObjId)
    (writes : Bool) : Type 0 where
  pub event : happens (opening_in state.journal) e (entries_in state.journal)
      ≡ Some (Accessed (a.0 + 1) o.0 e)
  pub object : declared_by e.call e.reply ≡ []
  pub write : is_write e.call ≡ writes

-- a's version has what the change leaves of what a sees
abbrev pub IsAltered : Tree → ActionId → PlainChange → Object → Object → Type 0
IsAltered t a change old new = IsWritten t a (changed t a change old).0 old new

-- the object has changed as R says, and is on a's list now
pub record IsAccessed (R : Object → Object → Type 0) (a : ActionId) (o : ObjId)
    (old new : List AtomicObject) (held held' : Holdings) : Type 0 where
  pub objects : AreChanged R (o ∷ []) old new
  pub lists : Lists held a (noted o (objects_held_by held a)) held'

-- nothing has changed, except for room
pub record IsAsBefore (o : ObjId) (old new : List AtomicObject)
    (held held' : Holdings) : Type 0 where
  pub objects : AreChanged SameLocks (o ∷ []) old new
  pub lists : SameLists held held'
