-- A checkpoint of a guardian: when there can be one, and what it leaves.
use Rattle.std.specs.{List.list_any, Prelude.{Bool, List, Option, [], map, not}}
use Rattle.argus_contents.specs.{Content.PlainContent, Shape.PlainShape}
use Rattle.argus_journal.specs.{JournalView.JournalView, Events.history, Folding.fold}
use Rattle.argus_core.specs.declared.engine.atomic_object.AtomicObject.{AtomicObject}
use Rattle.argus_model.specs.{History.begun_actions, Status.is_live}

-- no action is live
abbrev pub is_quiet : JournalView → Bool
is_quiet journal =
    not (list_any (is_live (history journal.opening journal.entries))
    (begun_actions (history journal.opening journal.entries)))

-- the journal with all its entries folded into the opening
abbrev pub after_checkpoint : JournalView → JournalView
after_checkpoint journal = record { opening = fold journal.opening journal.entries; entries = [] }

-- an object as an opening has it: its shape and its base
abbrev pub opened_object : AtomicObject → PlainShape × Option PlainContent
opened_object object = (object.shape, object.cell.base)

-- the objects as an opening has them
abbrev pub opened_objects : List AtomicObject → List (PlainShape × Option PlainContent)
opened_objects objects = map opened_object objects
