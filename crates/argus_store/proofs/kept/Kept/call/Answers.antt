use Rattle.argus_journal.specs.Call.{plain_call}
use Rattle.argus_store.proofs.KeptLines.{by_result, longer}
use Rattle.argus_store.proofs.kept.Kept.call.Goals as goal

pub returns-clause-kept : goal.returns-clause-kept
returns-clause-kept g c j was =
    let before = rw (← c.self.view_is) at was in
    by_result c.call.result c.call.ensures.ok c.call.ensures.err
    (λ made. rw made (longer g.S.Store _ j (plain_call c.args.call) before)) (λ same. rw same before)
