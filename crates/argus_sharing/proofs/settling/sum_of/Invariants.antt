-- The sum so far is that of the calls of the seats so far, and has room.
use Rattle.std.proofs.Common.{◌≡◌, ◌≤◌, ◌*◌, ◌^◌, take}
use Rattle.std.specs.List.{sum_by}
use Rattle.argus_sharing.proofs.settling.sum_of.Given as goal

abbrev pub invariant-loop-seat : goal.invariant-loop-seat
invariant-loop-seat g l = (l.made ≡ sum_by (λ s. s.made) (take l.seat-index l.seats)) × (l.made ≤ l.seat-index * 2 ^ 64)
