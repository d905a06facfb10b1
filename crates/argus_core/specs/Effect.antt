-- What an action would leave for good.
use Rattle.std.specs.Option.{unwrap_or}
use Rattle.std.specs.Prelude.{List, None, Option, Some, if◌then◌else◌, map, slice_index_or, ℕ, ◌∷◌, []}
use Rattle.argus_actions.specs.declared.action_id.ActionId.{ActionId}
use Rattle.argus_contents.specs.{Content.PlainContent, declared.obj_id.ObjId.ObjId}
use Rattle.argus_journal.specs.{JournalView.JournalView, JournalFacts.{is_live_in, visible_to, written_by}}
use Rattle.argus_core.specs.declared.engine.atomic_object.AtomicObject.{AtomicObject}
use Rattle.argus_objects.specs.CellChanges.{has_version, version_of}

-- what the action sees in each object that it or a committed subaction has written, in increasing
-- number of the objects
abbrev pub effect_of : JournalView → ℕ → List (ℕ × Option PlainContent)
effect_of journal a =
    map (λ o. (o, visible_to journal.opening journal.entries a o))
    (written_by journal.opening journal.entries a)

-- the same for a live action; none for others
abbrev pub effect_if_live : JournalView → ℕ → Option (List (ℕ × Option PlainContent))
effect_if_live journal a =
    if is_live_in journal.opening journal.entries a then Some (effect_of journal a) else None

-- the numbers of the objects on the list of which the action has a version
abbrev pub written_in : ActionId → List AtomicObject → AtomicObject → List ObjId → List ℕ
written_in a objects d [] = []
written_in a objects d (o ∷ list) =
    if has_version a (slice_index_or objects o.0 d).cell.versions then o.0
    ∷ written_in a objects d list
    else written_in a objects d list

-- the content of the action's version of an object, absent if it has none
abbrev pub version_in : ActionId → List AtomicObject → AtomicObject → ℕ → Option PlainContent
version_in a objects d o = unwrap_or (version_of a (slice_index_or objects o d).cell.versions) None
