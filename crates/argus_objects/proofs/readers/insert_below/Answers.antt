-- Those that moved down, and behind them the action.
use Rattle.std.proofs.{Common.arith, Math.Seq.paste, lemmas.Grind.common_steps}
use Rattle.argus_objects.proofs.Moved.{down_by_one}
use Rattle.argus_objects.proofs.readers.insert_below.Goals as goal

pub returns-clause-items : goal.returns-clause-items
returns-clause-items c = grind (arith, common_steps, paste, down_by_one)
