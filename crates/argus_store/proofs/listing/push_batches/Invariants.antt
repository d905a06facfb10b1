use Rattle.std.proofs.Common.{◌≡◌, length, List, map}
use Rattle.argus_store.specs.Journal.{Batch, shown_batch}
use Rattle.argus_store.proofs.Chains.{BatchesLeft}
use Rattle.argus_store.proofs.listing.push_batches.Given as goal

abbrev pub invariant-loop-row : goal.invariant-loop-row
invariant-loop-row l = (bs : List Batch) → l.fn.rows ≡ map shown_batch bs → BatchesLeft l.fn.name l.fn.start bs
    l.fn.text.items l.at l.rest l.text.items

abbrev pub decreases-loop-row : goal.decreases-loop-row
decreases-loop-row l = length l.rest
