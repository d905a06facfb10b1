-- So many are required for the pairs so far.
use Rattle.std.proofs.Common.{take, ◌≡◌}
use Rattle.argus_board.specs.Effects.{needed}
use Rattle.argus_contents.specs.Effect.{plain_effect}
use Rattle.argus_board.proofs.writing.needed.Given as goal

abbrev pub invariant-loop-pair : goal.invariant-loop-pair
invariant-loop-pair l = l.count ≡ needed (plain_effect (take l.pair-index l.effect))
