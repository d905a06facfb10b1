-- Each write goes on where the one before it stopped.
use Rattle.std.proofs.{lemmas.Grind.common_steps, Common.{length-drop, arith}, lemmas.List.take_rest}
use Rattle.argus_streams.proofs.Bytes.{appends_more}
use Rattle.argus_streams.specs.FailStop.{inner_of}
use Rattle.argus_streams.proofs.output.write_whole.Goals as goal

pub loop-at-preserved : goal.loop-at-preserved
loop-at-preserved g c =
    let some = rw (take_rest c.args.bytes.now c.loop-at.at) at c.in-Some.ensures.some in
    record {
      within = omega (arith, some.1, length-drop c.loop-at.at c.args.bytes.now);
      fine = c.in-Some.ensures.fine;
      written = appends_more (g.W.Write.contents (inner_of c.args.writer.now))
          (g.W.Write.contents (inner_of c.loop-at.writer))
          (g.W.Write.contents (inner_of c.write_once.new.self))
          c.args.bytes.now c.loop-at.at c.in-Some.n c.loop-at.invariant.written some.2;
    }

pub returns-clause-ok : goal.returns-clause-ok
returns-clause-ok g c = grind (arith, common_steps)
