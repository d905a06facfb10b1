-- A chunk was read, and whole lines of it were taken.
use Rattle.std.proofs.Common.{List, arith, drop, length, length-take, subst, take, ℕ, ◌*◌, ◌+◌, ◌++◌, ◌≤◌}
use Rattle.argus_resume.proofs.Readings.{ReadTo, early_ends, no_end, read_ends, read_more}
use Rattle.argus_streams.specs.FailStop.{has_failed, inner_of}
use Rattle.argus_resume.proofs.resuming.Resuming.take_from.Goals as goal

pub returns-in-Some-early_end : goal.returns-in-Some-early_end
returns-in-Some-early_end g c =
    let after = g.R.Read.remaining (inner_of c.read_once.new.self) in
    let chunk = take c.in-Some.n c.read_once.new.buffer in
    let t = c.take_chunk-taken in
    let count = length-take c.in-Some.n c.read_once.new.buffer in
    let size : 16384 * c.loop-turn.turn + length chunk ≤ 16384 * (c.loop-turn.turn + 1) =
    omega (arith, c.loop-turn.invariant.size, c.read_once.auto.buffer, count) in
    let more = read_more _ _ _ _ _ _ _ _ c.loop-turn.invariant.read after chunk t.new.self t.result.bytes
    t.result.lines _ c.in-Some.ensures.some.1 size t.ensures.within t.ensures.text t.ensures.lines in
    read_ends _ _ _ _ _ _ _ _ more c.in-Some-early_end.end (has_failed c.read_once.new.self)
    (early_ends t.result.end c.in-Some-early_end.end t.new.self t.new.pending.items _ after
    (has_failed c.read_once.new.self) c.in-Some.ensures.fine c.in-Some-early_end.ensures t.ensures.end)

pub loop-turn-preserved : goal.loop-turn-preserved
loop-turn-preserved g c =
    let had = g.R.Read.remaining (inner_of c.args.reader.now) in
    let after = g.R.Read.remaining (inner_of c.read_once.new.self) in
    let chunk = take c.in-Some.n c.read_once.new.buffer in
    let t = c.take_chunk-taken in
    let left = drop t.result.bytes (c.loop-turn.pending.items ++ chunk) in
    let count = length-take c.in-Some.n c.read_once.new.buffer in
    let size : 16384 * c.loop-turn.turn + length chunk ≤ 16384 * (c.loop-turn.turn + 1) =
    omega (arith, c.loop-turn.invariant.size, c.read_once.auto.buffer, count) in
    let more = read_more _ _ _ _ _ _ _ _ c.loop-turn.invariant.read after chunk t.new.self t.result.bytes
    t.result.lines _ c.in-Some.ensures.some.1 size t.ensures.within t.ensures.text t.ensures.lines in
    let kept = no_end t.result.end t.new.self t.new.pending.items left c.in_default-early_end.ensures t.ensures.end in
    record {
      fine = c.in-Some.ensures.fine;
      size = omega (arith, c.loop-turn.invariant.size, c.read_once.auto.buffer);
      none = kept.1;
      read = subst (λ (x : List ℕ). ReadTo c.args.self.now t.new.self had after (c.loop-turn.bytes + t.result.bytes)
          (c.loop-turn.lines + t.result.lines) (16384 * (c.loop-turn.turn + 1)) x) kept.0 more;
    }
