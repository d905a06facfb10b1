-- A `Count` may be looked at from other threads: it holds a pointer, and the right to look at a word that they share.
use denote.Param.Send.{IsSync, struct_sync, sendable}
use denote.Struct.Owning.{shape, to}
use Rattle.argus_memory.specs.contracts.count.Count as C
use Rattle.argus_memory.proofs.Lasting.{lasts_keyless}

pub sync : IsSync C.the_row
sync = record {
  shared = λ c b o κ. (
    (struct_sync (shape C.the_type) (search sendable, tt)).shared (to C.the_type c) b o κ,
    lasts_keyless c.at,
  );
}
