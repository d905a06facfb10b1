-- The gate may be looked at from other threads.
use denote.Param.Send.{sendable}
use Rattle.argus_values.proofs.MemoryCrossing.{crosses}
use Rattle.std.proofs.Crossing.{crosses as std_crosses}
use Rattle.guardian_tests.proofs.scripts.run_seats.Goals as goal

pub run_shared-requires-sync-G : goal.run_shared-requires-sync-G
run_shared-requires-sync-G g c κs within = search (sendable, std_crosses, crosses) depth 40
