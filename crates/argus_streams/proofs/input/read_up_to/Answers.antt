-- What a read adds is within the limit.
use Rattle.std.proofs.{Common.{arith, take, ◌++◌}, lemmas.Grind.common_steps}
use Rattle.argus_streams.proofs.input.read_up_to.Goals as goal

pub loop-chunk-preserved : goal.loop-chunk-preserved
loop-chunk-preserved g c = grind (arith, common_steps)

pub returns-then-is_err-clause-bounded : goal.returns-then-is_err-clause-bounded
returns-then-is_err-clause-bounded g c = record {
  bytes = c.loop-chunk.all.items ++ take c.in-Some.n c.read_once.new.buffer;
  consumed = grind (arith, common_steps);
  most = grind (arith, common_steps);
}
