-- In the objects so far the action holds nothing; the others are as before.
use Rattle.std.proofs.Common.{eqb, take}
use Rattle.argus_core.specs.Moving.{AreChanged, IsEnded}
use Rattle.argus_core.proofs.engine.moving.release_all.Given as goal

abbrev pub invariant-loop-o : goal.invariant-loop-o
invariant-loop-o l =
    AreChanged (IsEnded l.tree (λ x. eqb x l.a.0)) (take l.o-index l.listed) l.initial.objects l.objects
