-- The names so far are those of the objects so far.
use Rattle.std.proofs.Common.{◌≡◌}
use Rattle.argus_embed.specs.Questions.{object_names}
use Rattle.argus_embed.proofs.journal_writing.object_names.Given as goal

abbrev pub invariant-loop-o : goal.invariant-loop-o
invariant-loop-o l = l.names.items ≡ object_names l.o
