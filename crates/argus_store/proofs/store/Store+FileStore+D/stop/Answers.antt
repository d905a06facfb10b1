use Rattle.std.proofs.Common.{sym, ◌∙◌}
use Rattle.argus_store.proofs.Restarts.{keeps_after_crash}
use Rattle.argus_store.proofs.store.Store+FileStore+D.stop.Goals as goal

pub returns : goal.returns
returns g c clean =
    keeps_after_crash c.args.self g.met.D.Disk.seen_may_stay
    (rw c.self.view_is at (sym c.into_store.ensures.undone.numbered ∙ c.into_store.ensures.numbered clean))
    (rw c.self.view_is at c.schema.ensures.live)
