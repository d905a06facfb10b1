-- What goes to the workers' threads may go there.
use denote.Param.Send.{sendable}
use Rattle.argus_sharing.proofs.Crossing.{crosses}
use Rattle.argus_workers.proofs.Crossing.{arm_context_syncs, left_sends}
use Rattle.argus_workers.proofs.handing_out.run_all.Goals as goal

pub do_all-requires-send-J : goal.do_all-requires-send-J
do_all-requires-send-J g c κs within = search (sendable, crosses, left_sends) depth 40

pub do_all-requires-sync-C : goal.do_all-requires-sync-C
do_all-requires-sync-C g c κs within = search (sendable, arm_context_syncs) depth 40
