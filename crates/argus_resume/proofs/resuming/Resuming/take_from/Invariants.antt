-- The listing is longer by the first bytes of what was read; what is left of that is pending.
use Rattle.std.proofs.Common.{false, length, ◌*◌, ◌≡◌}
use Rattle.argus_resume.specs.Taking.{HasNoFeed}
use Rattle.argus_resume.proofs.Readings.{ReadTo}
use Rattle.argus_streams.specs.FailStop.{has_failed, inner_of}
use Rattle.argus_resume.proofs.resuming.Resuming.take_from.Given as goal

abbrev pub invariant-loop-turn : goal.invariant-loop-turn
invariant-loop-turn g l = record {
  fine : has_failed l.reader ≡ false;
  size : length l.chunk ≡ 16384;
  none : HasNoFeed l.pending.items;
  read : ReadTo l.initial.self l.self (g.R.Read.remaining (inner_of l.initial.reader))
      (g.R.Read.remaining (inner_of l.reader)) l.bytes l.lines (16384 * l.turn) l.pending.items;
}
