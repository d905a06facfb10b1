-- The action is put in its place behind the front.
use Rattle.std.proofs.{Common.arith, lemmas.{List.length-drop, Grind.common_steps}}
use Rattle.argus_objects.proofs.Moved.{put_between}
use Rattle.argus_objects.proofs.readers.Readers.put_in.Goals as goal

pub returns-else-is_nearer-clause-items : goal.returns-else-is_nearer-clause-items
returns-else-is_nearer-clause-items c = grind (arith, common_steps, length-drop, put_between)
