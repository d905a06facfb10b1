-- No object, action or entry went before: the opening is empty.
use Rattle.std.proofs.Common.{ap, arith, slice_get, sym, ◌∙◌, ◌≡◌}
use Rattle.argus_cli.proofs.Settled.{none_at_front, unopened}
use Rattle.argus_journal.specs.Opening.{opening_at}
use Rattle.argus_cli.proofs.running_by_workers.is_from_start.Goals as goal

pub returns : goal.returns
returns c = λ none.
    let journal = c.args.guardian.now in
    let same = c.journal-journal.ensures.opening ∙ c.journal.ensures.opening in
    let entry : journal.opening.first_entry ≡ 0 =
    ap (λ s. s.first_entry) (sym same) ∙ sym c.first_entry.ensures.first ∙ (omega arith) in
    let action : journal.opening.first_action ≡ 0 =
    ap (λ s. s.first_action) (sym same) ∙ sym c.first_action.ensures.first ∙ (omega arith) in
    let objects = none_at_front journal.opening.objects (ap (λ s. slice_get s.objects 0) (sym same)
    ∙ sym c.opening.ensures.object ∙ unopened c.opening.result c.is_none.result c.is_none.ensures none) in
    (λ k. opening_at (objects k) (action k) (entry k))
