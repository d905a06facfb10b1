use Rattle.std.proofs.Common.{arith, ◌+◌, ◌∙◌}
use Rattle.argus_embed.proofs.JournalLines.{line_added, line_past, long_is}
use Rattle.argus_embed.proofs.lines_writing.fitting_lines.Goals as goal

pub returns-then-most-len : goal.returns-then-most-len
returns-then-most-len c =
    let inv = c.loop-at.invariant in
    let long = long_is c.append_line.new.text in
    line_past c.args.guardian.now c.args.from c.loop-at.at inv.0 _ _ inv.1 inv.2 c.in_ok-append_line.ensures
    c.args.next c.args.most c.len-size.result (c.len-size.ensures ∙ long_is c.loop-at.text) inv.3 c.loop-at-test.true
    (omega (arith, c.if-most-len.true, c.len.ensures, long))

pub loop-at-preserved : goal.loop-at-preserved
loop-at-preserved c =
    let inv = c.loop-at.invariant in
    let is = inv.1 in
    let long = long_is c.append_line.new.text in (
      inv.0 + 1,
      omega (arith, is),
      line_added c.args.guardian.now c.args.from c.loop-at.at inv.0 _ _ inv.1 inv.2 c.in_ok-append_line.ensures,
      omega (arith, c.if-most-len.false, c.len.ensures, long),
    )
