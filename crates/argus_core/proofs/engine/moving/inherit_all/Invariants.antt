-- The objects so far are inherited by the parent; the others are as before.
use Rattle.std.proofs.Common.{take}
use Rattle.argus_core.specs.Moving.{AreChanged, IsInherited}
use Rattle.argus_core.proofs.engine.moving.inherit_all.Given as goal

abbrev pub invariant-loop-o : goal.invariant-loop-o
invariant-loop-o l = AreChanged (IsInherited l.tree l.a l.parent) (take l.o-index l.listed) l.initial.objects l.objects
