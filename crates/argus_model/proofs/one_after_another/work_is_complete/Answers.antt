-- The proof of the laws that stand on `work_is_complete`.
use Rattle.argus_model.proofs.Topaction.{committed_complete, live_complete, one_topaction, serial_complete}
use Rattle.argus_model.proofs.one_after_another.work_is_complete.Goals as goal

pub returns : goal.returns
returns g c = record {
  serial = serial_complete;
  committed = committed_complete;
  live = live_complete;
  one = one_topaction;
}
