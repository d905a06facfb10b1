-- Lookers may go to other threads.
use denote.Param.Send.{sendable}
use Rattle.argus_bench.proofs.looking.look_all.Goals as goal
use Rattle.argus_guardian.proofs.Crossing.{crosses}

pub map_vec-requires-send-J : goal.map_vec-requires-send-J
map_vec-requires-send-J g c κs within = search (sendable, crosses) depth 40

pub map_vec-requires-send-X : goal.map_vec-requires-send-X
map_vec-requires-send-X g c κs within = search (sendable, crosses) depth 40
