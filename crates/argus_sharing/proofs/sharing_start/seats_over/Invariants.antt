-- So many seats have been made, of as many parts of the share.
use Rattle.std.proofs.Common.{length, ◌+◌, ◌≡◌}
use Rattle.std.specs.Prelude.{All}
use Rattle.argus_sharing.proofs.sharing_start.seats_over.Given as goal

abbrev pub invariant-loop-i : goal.invariant-loop-i
invariant-loop-i g l =
    All (λ s. s.made ≡ 0) l.seats.items × (length l.seats.items ≡ l._i) × (l.share.amount ≡ 0)
    × (l.share.parts + l._i ≡ l.count)
