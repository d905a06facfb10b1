-- A batch more, and a batch fewer that is left.
use Rattle.std.proofs.Common.{◌≡◌, [], rules}
use Rattle.argus_store.proofs.Chains.{next_batch, no_batch, weaker}
use Rattle.argus_store.proofs.listing.push_batches.Goals as goal

pub returns-in-Err-clause-faulty : goal.returns-in-Err-clause-faulty
returns-in-Err-clause-faulty c bs rows =
    let it = next_batch _ _ bs _ _ _ _ _ _ c.in-Some.ensures (c.loop-row.invariant bs rows) in
    weaker _ _ it.wrong c.in-Err.error (c.in-Err.ensures.faulty it.batch it.row_is)

pub loop-row-preserved : goal.loop-row-preserved
loop-row-preserved c bs rows =
    let it = next_batch _ _ bs _ _ _ _ _ _ c.in-Some.ensures (c.loop-row.invariant bs rows) in
    let made = c.in-Ok.ensures.pushed it.batch it.row_is in
    it.then made.0 c.in-Ok.after made.1 c.push_batch.new.text.items made.2

pub returns-clause-pushed : goal.returns-clause-pushed
returns-clause-pushed c bs rows =
    let none : c.loop-row.rest.now ≡ [] = search rules in
    no_batch _ _ bs _ _ _ _ none (c.loop-row.invariant bs rows)
