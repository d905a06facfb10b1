-- One object more is noted, in the room that is there.
use Rattle.std.proofs.{Common.arith, lemmas.{List.drop_more, Grind.common_steps}}
use Rattle.argus_objects.proofs.object_list.ObjectList.note_all.Goals as goal

pub loop-o-preserved : goal.loop-o-preserved
loop-o-preserved c = grind (arith, common_steps, drop_more)
