use Rattle.std.proofs.{Common.{arith, w64}, lemmas.Int.to_z_pos}
use Rattle.argus_store.proofs.making.begin.Goals as goal

pub returns-clause-runs : goal.returns-clause-runs
returns-clause-runs g c clean inside =
    simp (c.from.ensures, to_z_pos w64 c.args.sum (omega (arith, c.ranges.sum))) at (rw (c.params-to_sql.ensures, c.params-to_sql-2.ensures, c.params-to_sql-3.ensures) at
    (c.execute.ensures.runs clean inside))
