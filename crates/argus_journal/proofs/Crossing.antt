-- A journal may go to another thread, and be looked at from there: as a set for `search`, `crosses`.
use denote.RattleType.{RattleType}
use denote.Struct.Declared.{shape}
use denote.Struct.Tuple.{Tuple, tuple_type}
use denote.Param.Send.{IsSend, IsSync, recorded_send, recorded_sync, sendable, struct_send, struct_sync}
use Rattle.std.specs.{Prelude.{[], ◌∷◌}, contracts.{option.Option.the_row as option_row, vec.Vec.the_row as list_row}}
use Rattle.argus_contents.specs.contracts.{content.Content.the_row as content_row, shape.Shape.the_row as shape_row}
use Rattle.argus_entries.specs.contracts.entry.Entry.{the_row as entry_row}
use Rattle.argus_journal.specs.contracts.journal.Journal.{the_row as journal_row}
use Rattle.argus_journal.specs.contracts.legal_journal.LegalJournal.{the_row as legal_row}
use Rattle.argus_memory.proofs.Crossing as memory
use Rattle.argus_contents.proofs.Crossing as contents
use Rattle.argus_entries.proofs.Crossing as entries

-- an object of an opening: its shape and what it held
abbrev pub object_row : RattleType
object_row = Tuple (shape_row ∷ option_row content_row ∷ [])

option_sends : IsSend (option_row content_row)
option_sends = search (sendable, contents.crosses) depth 40

option_syncs : IsSync (option_row content_row)
option_syncs = search (sendable, contents.crosses) depth 40

object_sends : IsSend object_row
object_sends = let pair = tuple_type (shape_row ∷ option_row content_row ∷ []) in
    recorded_send _ pair.D pair.to pair.to_one (struct_send (shape pair) (contents.shape_sends, (option_sends, tt)))

object_syncs : IsSync object_row
object_syncs = let pair = tuple_type (shape_row ∷ option_row content_row ∷ []) in
    recorded_sync _ pair.D pair.to pair.to_one (struct_sync (shape pair) (contents.shape_syncs, (option_syncs, tt)))

pub objects_sends : IsSend (list_row object_row memory.room memory.rests)
objects_sends = memory.list_sends object_row object_sends

pub objects_syncs : IsSync (list_row object_row memory.room memory.rests)
objects_syncs = memory.list_syncs object_row object_syncs

pub entries_sends : IsSend (list_row entry_row memory.room memory.rests)
entries_sends = memory.list_sends entry_row entries.entry_sends

pub entries_syncs : IsSync (list_row entry_row memory.room memory.rests)
entries_syncs = memory.list_syncs entry_row entries.entry_syncs

pub filled_sends : IsSend (list_row (list_row entry_row memory.room memory.rests) memory.room memory.rests)
filled_sends = memory.list_sends (list_row entry_row memory.room memory.rests) entries_sends

pub filled_syncs : IsSync (list_row (list_row entry_row memory.room memory.rests) memory.room memory.rests)
filled_syncs = memory.list_syncs (list_row entry_row memory.room memory.rests) entries_syncs

pub journal_sends : IsSend journal_row
journal_sends = search (sendable, objects_sends, entries_sends, filled_sends) depth 30 fits 20000

pub journal_syncs : IsSync journal_row
journal_syncs = search (sendable, objects_syncs, entries_syncs, filled_syncs) depth 30 fits 20000

pub legal_sends : IsSend legal_row
legal_sends = search (sendable, objects_sends, entries_sends, filled_sends) depth 50 fits 40000

pub legal_syncs : IsSync legal_row
legal_syncs = search (sendable, objects_syncs, entries_syncs, filled_syncs) depth 50 fits 40000

pub ruleset crosses = (
  entries.crosses,
  objects_sends,
  objects_syncs,
  entries_sends,
  entries_syncs,
  filled_sends,
  filled_syncs,
  journal_sends,
  journal_syncs,
  legal_sends,
  legal_syncs,
)
