use Rattle.std.proofs.{Common.{arith, w64}, lemmas.Int.to_z_pos}
use Rattle.argus_store.proofs.{Changes.{end_row, moves_end}, Statements.move_text, Transaction.ran_one}
use Rattle.argus_store.proofs.changing.move_end.Goals as goal

pub returns-clause-ran : goal.returns-clause-ran
returns-clause-ran g c =
    ran_one move_text (end_row c.args.name.now c.args.end c.args.after) _ _ c.execute.result _ (λ clean inside.
    simp (
      c.from.ensures,
      c.from-2.ensures,
      to_z_pos w64 c.args.after.next (omega arith),
      to_z_pos w64 c.args.after.sum (omega arith),
      to_z_pos w64 c.args.end.next (omega arith),
      to_z_pos w64 c.args.end.sum (omega arith),
    ) at (rw (
      c.params-to_sql.ensures,
      c.params-to_sql-2.ensures,
      c.params-to_sql-3.ensures,
      c.params-to_sql-4.ensures,
      c.params-to_sql-5.ensures,
    ) at (c.execute.ensures.runs clean inside))) c.execute.ensures.survives
    (λ count ran. moves_end _ _ c.args.name.now c.args.end c.args.after count ran)
