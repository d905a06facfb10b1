-- Who waits in another thread may cross to it, and back.
use denote.Param.Send.{sendable}
use Rattle.argus_guardian.proofs.Crossing.{crosses}
use Rattle.std.proofs.Crossing.{crosses as std_crosses}
use Rattle.guardian_tests.proofs.waiting.wait_meanwhile.Goals as goal

pub join-waited-requires-send-F : goal.join-waited-requires-send-F
-- (the lemma of seats goes first: what is in a seat is not to be looked at)
join-waited-requires-send-F g c κs within = search (crosses, std_crosses, sendable) depth 40

pub join-waited-requires-send-A : goal.join-waited-requires-send-A
join-waited-requires-send-A g c κs within = search (sendable, std_crosses, crosses) depth 40
