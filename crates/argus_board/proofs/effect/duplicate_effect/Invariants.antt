-- The copy so far says what the effect so far says.
use Rattle.std.proofs.Common.{take, ◌≡◌}
use Rattle.argus_contents.specs.Effect.{plain_effect}
use Rattle.argus_board.proofs.effect.duplicate_effect.Given as goal

abbrev pub invariant-loop-pair : goal.invariant-loop-pair
invariant-loop-pair l = plain_effect l.copy.items ≡ plain_effect (take l.pair-index l.effect.items)
