-- What was copied so far.
use Rattle.std.proofs.Common.{map, take, ◌≡◌}
use Rattle.argus_core.specs.{Effect.version_in, declared.engine.atomic_object.AtomicObject.AtomicObject}
use Rattle.argus_contents.specs.Effect.{plain_effect}
use Rattle.argus_core.proofs.effect.contents_of.Given as goal

abbrev pub invariant-loop-number : goal.invariant-loop-number
invariant-loop-number l =
    (d : AtomicObject) → plain_effect l.contents.items ≡ map (λ o. (o, version_in l.a l.objects d o))
    (take l.number-index l.numbers)
