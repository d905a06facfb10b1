-- What is left of the effect, written into the contents, leaves what the whole effect leaves.
use Rattle.std.proofs.Common.{length, ◌≡◌, ◌≤◌}
use Rattle.argus_board.specs.Effects.{needed, plain_contents, written}
use Rattle.argus_contents.specs.Effect.{plain_effect}
use Rattle.argus_board.proofs.writing.write.Given as goal

abbrev pub invariant-loop-object : goal.invariant-loop-object
invariant-loop-object l =
    (written (plain_contents l.contents.items) (plain_effect l.effect.items)
    ≡ written (plain_contents l.initial.contents.items) (plain_effect l.initial.effect.items))
    × (needed (plain_effect l.effect.items) ≤ length l.contents.items)

abbrev pub decreases-loop-object : goal.decreases-loop-object
decreases-loop-object l = length l.effect.items
