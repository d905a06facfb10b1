-- A line more, and a line fewer that is left.
use Rattle.std.proofs.Common.{ap, arith, length}
use Rattle.argus_store.proofs.Chains.{next_line, weaker}
use Rattle.argus_store.proofs.listing.push_lines.Goals as goal

pub returns-in-Err-clause-faulty : goal.returns-in-Err-clause-faulty
returns-in-Err-clause-faulty c ls rows =
    let it = next_line ls _ _ _ _ _ _ c.in-Some.ensures (c.loop-row.invariant.1 ls rows) in
    weaker _ _ (λ fault p. it.wrong p.0 fault p.1) c.in-Err.error (c.in-Err.ensures.faulty it.line it.row_is)

pub loop-row-preserved : goal.loop-row-preserved
loop-row-preserved c = (
  omega (arith, c.loop-row.invariant.0, ap length c.in-Some.ensures),
  λ ls rows.
      let it = next_line ls _ _ _ _ _ _ c.in-Some.ensures (c.loop-row.invariant.1 ls rows) in
      let made = c.in-Ok.ensures.pushed it.line it.row_is in
      it.then made.1 c.push_line.new.text.items made.0,
)
