-- A call that may come next keeps the order; at the end all calls are in it.
use Rattle.argus_workers.proofs.Ordered.{up_to_all, up_to_more}
use Rattle.argus_workers.proofs.ordering.in_order.Goals as goal

pub loop-call-preserved : goal.loop-call-preserved
loop-call-preserved c = up_to_more c.loop-call.order c.in-Some.next c.args.calls.now c.loop-call.call-index _
    c.loop-call-test.true c.in-Some.ensures c.loop-call.invariant

pub returns : goal.returns
returns c = λ _. up_to_all c.loop-call.order c.args.calls.now c.loop-call.call-index c.loop-call-test.false
    c.loop-call.invariant
