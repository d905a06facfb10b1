-- A `Count` may go to another thread: it owns a pointer, and the right to look at a word that threads share.
use denote.Param.Send.{IsSend, owning_send, sendable}
use Rattle.argus_memory.specs.contracts.count.Count as C
use Rattle.argus_memory.proofs.Lasting.{lasts_keyless}

pub send : IsSend C.the_row
send = owning_send C.the_type (search sendable, tt) (λ c. lasts_keyless c.at) (λ k x w. tt)
