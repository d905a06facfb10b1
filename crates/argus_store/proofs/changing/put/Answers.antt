use Rattle.std.proofs.{Common.{arith, pos, w64}, lemmas.Int.to_z_pos}
use Rattle.argus_store.specs.Journal.{a_batch, ending_at, shown_batch}
use Rattle.argus_store.proofs.{Changes.puts, Statements.put_text, Transaction.ran_one}
use Rattle.argus_store.proofs.changing.put.Goals as goal

pub returns-clause-ran : goal.returns-clause-ran
returns-clause-ran g c =
    let b = a_batch (pos c.args.end.next) c.args.lines.now (pos c.args.after.sum) in
    ran_one put_text (shown_batch b) _ _ c.execute.result _ (λ clean inside. simp (
      c.from.ensures,
      to_z_pos w64 c.args.end.next (omega arith),
      to_z_pos w64 c.args.after.sum (omega arith),
    ) at (rw (c.params-to_sql.ensures, c.params-to_sql-2.ensures, c.params-to_sql-3.ensures) at
    (c.execute.ensures.runs clean inside))) c.execute.ensures.survives (λ count ran j sees below. puts _ _
    (ending_at j (pos c.args.after.next) (pos c.args.after.sum)) b count sees.0 sees.1 below ran)
