use Rattle.std.proofs.Common.{◌≡◌, fold, length}
use Rattle.argus_store.specs.Summing.{after_byte}
use Rattle.argus_store.proofs.summing.with_bytes.Given as goal

abbrev pub invariant-loop-bytes : goal.invariant-loop-bytes
invariant-loop-bytes l = fold after_byte l.rest l.bytes ≡ fold after_byte l.fn.rest l.fn.bytes

abbrev pub decreases-loop-bytes : goal.decreases-loop-bytes
decreases-loop-bytes l = length l.bytes
