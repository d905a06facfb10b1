use Rattle.argus_store.proofs.Statements.{clear_batches_text, clear_opening_text}
use Rattle.argus_store.proofs.{Folding.{cleared, replaces}, Transaction.{failed_first, failed_then}}
use Rattle.argus_store.proofs.changing.replace.Goals as goal

pub returns-in_err-execute-clause-ran : goal.returns-in_err-execute-clause-ran
returns-in_err-execute-clause-ran g c = failed_first clear_batches_text _ _ c.execute.result c.from_residual.result _
    c.execute.ensures.runs c.execute.ensures.survives c.from_residual.ensures.0

pub returns-in_err-execute-2-clause-ran : goal.returns-in_err-execute-2-clause-ran
returns-in_err-execute-2-clause-ran g c = failed_then clear_opening_text _ _ _ c.in_ok-execute.field-0
    c.execute-2.result c.from_residual-in_err-execute-2.result _ _
    (cleared _ _ _ c.in_ok-execute.ensures.runs c.execute.ensures.survives) c.execute-2.ensures.runs
    c.execute-2.ensures.survives c.from_residual-in_err-execute-2.ensures.0

pub returns-clause-ran : goal.returns-clause-ran
returns-clause-ran g c = replaces _ _ _ _ c.args.opening.now c.in_ok-execute.field-0 c.in_ok-execute-2.field-0
    c.execute-3.result (cleared _ _ _ c.in_ok-execute.ensures.runs c.execute.ensures.survives)
    c.in_ok-execute-2.ensures.runs c.execute-2.ensures.survives
    (rw c.params-to_sql.ensures at c.execute-3.ensures.runs) c.execute-3.ensures.survives
