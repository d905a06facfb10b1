-- Seats may go to other threads, and what is shared may be lent to them.
use denote.Param.Send.{sendable}
use Rattle.argus_bench.proofs.counting.count_all.Goals as goal
use Rattle.argus_guardian.proofs.Crossing.{crosses}

pub map_vec-requires-sync-F : goal.map_vec-requires-sync-F
map_vec-requires-sync-F g c κs within = search (sendable, crosses) depth 40
