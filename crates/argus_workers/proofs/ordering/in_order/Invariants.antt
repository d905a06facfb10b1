-- The calls so far are in order, and bound the number that the next may have.
use Rattle.argus_workers.proofs.Ordered.{UpTo}
use Rattle.argus_workers.proofs.ordering.in_order.Given as goal

abbrev pub invariant-loop-call : goal.invariant-loop-call
invariant-loop-call l = UpTo l.order l.calls l.call-index
