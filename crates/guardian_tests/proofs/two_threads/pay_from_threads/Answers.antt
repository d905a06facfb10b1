-- Seats, receipts and what is shared may cross to another thread.
use denote.Param.Send.{sendable}
use Rattle.argus_guardian.proofs.Crossing.{crosses}
use Rattle.guardian_tests.proofs.two_threads.pay_from_threads.Goals as goal

pub join-one-requires-send-F : goal.join-one-requires-send-F
join-one-requires-send-F g c κs within = search (sendable, crosses) depth 40

pub join-one-requires-send-A : goal.join-one-requires-send-A
join-one-requires-send-A g c κs within = search (sendable, crosses) depth 40
