-- The calls so far are those that the seats so far made.
use Rattle.std.proofs.Common.{sum_by, take, ◌≡◌}
use Rattle.argus_workers.proofs.running_shared.made_by.Given as goal

abbrev pub invariant-loop-seat : goal.invariant-loop-seat
invariant-loop-seat g l = l.made ≡ sum_by (λ s. s.made) (take l.seat-index l.seats)
