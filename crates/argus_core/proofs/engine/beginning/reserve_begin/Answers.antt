-- Room for one more action changes nothing that the journal speaks of.
use Rattle.argus_core.proofs.OfState.{keeps_with}
use Rattle.argus_core.proofs.engine.beginning.reserve_begin.Goals as goal

pub returns-clause-kept : goal.returns-clause-kept
returns-clause-kept c =
    rw (c.reserve.ensures.entries, c.reserve.ensures.opening)
    (keeps_with c.args.state.now c.requires c.reserve-2.new.self c.reserve-2.ensures.same)
