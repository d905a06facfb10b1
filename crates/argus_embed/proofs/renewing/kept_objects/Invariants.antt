-- The copies so far are those of the objects so far.
use Rattle.std.proofs.Common.{map, take, ◌≡◌}
use Rattle.argus_journal.specs.{Folding.fold, Opening.plain_object}
use Rattle.argus_embed.proofs.renewing.kept_objects.Given as goal

abbrev pub invariant-loop-o : goal.invariant-loop-o
invariant-loop-o l = map plain_object l.objects.items ≡ take l.o (fold l.guardian.opening l.guardian.entries).objects
