-- What was found so far.
use Rattle.std.proofs.Common.{take, ◌≡◌}
use Rattle.argus_core.specs.{Effect.written_in, declared.engine.atomic_object.AtomicObject.AtomicObject}
use Rattle.argus_core.proofs.effect.written_numbers.Given as goal

abbrev pub invariant-loop-o : goal.invariant-loop-o
invariant-loop-o l = (d : AtomicObject) → l.numbers.items ≡ written_in l.a l.objects d (take l.o-index l.listed)
