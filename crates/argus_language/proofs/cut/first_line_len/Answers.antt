-- The first line ends at the first line feed, or with the bytes.
use Rattle.argus_language.proofs.Cutting.{pass, meet, reach_end}
use Rattle.argus_language.proofs.cut.first_line_len.Goals as goal

pub returns-then-bytes-i-eq10-clause-line : goal.returns-then-bytes-i-eq10-clause-line
returns-then-bytes-i-eq10-clause-line c =
    meet c.args.bytes.now c.loop-i.i c.loop-i-test.true c.if-bytes-i-eq10.true c.loop-i.invariant

pub loop-i-preserved : goal.loop-i-preserved
loop-i-preserved c = pass c.args.bytes.now c.loop-i.i c.loop-i-test.true c.if-bytes-i-eq10.false c.loop-i.invariant

pub returns-clause-line : goal.returns-clause-line
returns-clause-line c =
    reach_end c.args.bytes.now c.loop-i.i c.requires c.loop-i-test.false c.loop-i.auto.i-end c.loop-i.invariant
