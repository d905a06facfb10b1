-- The objects so far are settled; the others are as before.
use Rattle.std.proofs.Common.{take}
use Rattle.argus_core.specs.Moving.{AreChanged, IsSettled}
use Rattle.argus_core.proofs.engine.moving.settle_all.Given as goal

abbrev pub invariant-loop-o : goal.invariant-loop-o
invariant-loop-o l = AreChanged (IsSettled l.tree l.a) (take l.o-index l.listed) l.initial.objects l.objects
