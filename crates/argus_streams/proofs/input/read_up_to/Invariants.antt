-- What was read is the front of what the reader had.
use Rattle.std.proofs.Common.{◌≡◌, ◌≤◌, ◌-◌, false, length}
use Rattle.std.specs.Io.KnownBytes.{Consumes}
use Rattle.argus_streams.specs.FailStop.{has_failed, inner_of}
use Rattle.argus_streams.proofs.input.read_up_to.Given as goal

abbrev pub invariant-loop-chunk : goal.invariant-loop-chunk
invariant-loop-chunk g l = record {
  most : length l.all.items ≤ l.limit;
  fine : has_failed l.reader ≡ false;
  consumed : Consumes (g.R.Read.remaining (inner_of l.initial.reader)) (g.R.Read.remaining (inner_of l.reader))
      l.all.items;
}

abbrev pub decreases-loop-chunk : goal.decreases-loop-chunk
decreases-loop-chunk g l = l.limit - length l.all.items
