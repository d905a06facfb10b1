-- Lookers may go to another thread.
use denote.Param.Send.{sendable}
use Rattle.argus_bench.proofs.looking.time_lookers.Goals as goal
use Rattle.argus_guardian.proofs.Crossing.{crosses}
use Rattle.std.proofs.Crossing.{crosses as std_crosses}

pub join-looked-requires-send-F : goal.join-looked-requires-send-F
join-looked-requires-send-F g c κs within = search (sendable, std_crosses, crosses) depth 40

pub join-looked-requires-send-A : goal.join-looked-requires-send-A
join-looked-requires-send-A g c κs within = search (sendable, std_crosses, crosses) depth 40
