-- A begin adds a row, and an end changes statuses alone.
use Rattle.std.proofs.Common.{eqb, ◌∙◌}
use Rattle.argus_actions.specs.{declared.status.Status.TheVariants.{Live, Committed, Aborted}, Row.Row}
use Rattle.argus_actions.{specs.{Rows.has_ancestor, Tree.{is_ancestor, is_live_sibling}}, proofs.Above.lift}
use Rattle.argus_actions.proofs.Marks.{is_above-mark}
use Rattle.argus_objects.proofs.laws.ancestors_stay.Goals as goal

pub returns-clause-begin : goal.returns-clause-begin
returns-clause-begin c = λ tree origin x y up. lift tree.folded
    (let row : Row = record { origin = origin; status = Live } in row) tree.rows x y up

pub returns-clause-commit : goal.returns-clause-commit
returns-clause-commit c = λ tree a x y up. is_above-mark tree.folded (λ k. eqb k a.0) Committed tree.rows x y ∙ up

pub returns-clause-abort : goal.returns-clause-abort
returns-clause-abort c = λ tree a x y up. is_above-mark tree.folded (is_ancestor tree a.0) Aborted tree.rows x y ∙ up

pub returns-clause-abort_others : goal.returns-clause-abort_others
returns-clause-abort_others c = λ tree a x y up. is_above-mark tree.folded
    (has_ancestor (is_live_sibling tree a.0) tree.folded tree.rows) Aborted tree.rows x y ∙ up
