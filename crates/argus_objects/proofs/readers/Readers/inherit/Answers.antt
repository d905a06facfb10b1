-- The reader that went leaves room for the parent.
use Rattle.std.proofs.{Common.arith, lemmas.Grind.common_steps}
use Rattle.argus_objects.proofs.{InOrder.fewer_readers, Ascending.ascending_filter}
use Rattle.argus_objects.proofs.readers.Readers.inherit.Goals as goal

pub add-requires-clause-room : goal.add-requires-clause-room
add-requires-clause-room c = grind (arith, common_steps, fewer_readers)

pub add-requires-clause-ascending : goal.add-requires-clause-ascending
add-requires-clause-ascending c = grind (arith, common_steps, ascending_filter)

pub returns-then-has-clause-room : goal.returns-then-has-clause-room
returns-then-has-clause-room c = grind (arith, common_steps, fewer_readers)
