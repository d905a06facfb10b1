use Rattle.std.proofs.Common.{◌≡◌, ◌≢◌, rules}
use Rattle.argus_store.proofs.{Logs.bounded, Transaction.{both, elsewhere, if_failed, ran_as, ran_then}}
use Rattle.argus_store.proofs.changing.run.Goals as goal

pub move_end-requires : goal.move_end-requires
move_end-requires g c = rw c.requires.0 (bounded c.args.change c.args.name.now c.args.end c.args.lines.now c.requires.1)

pub put_in-requires : goal.put_in-requires
put_in-requires g c = (bounded c.args.change c.args.name.now c.args.end c.args.lines.now c.requires.1).0

pub returns-in_err-move_end-clause-ran : goal.returns-in_err-move_end-clause-ran
returns-in_err-move_end-clause-ran g c = ran_as _ _ c.move_end.result c.from_residual.result _ _ c.move_end.ensures.ran
    (λ _. if_failed _ _ c.from_residual.ensures.0)

pub returns-then-branch-ne1-clause-ran : goal.returns-then-branch-ne1-clause-ran
returns-then-branch-ne1-clause-ran g c =
    let other : c.in_ok-move_end.field-0 ≢ 1 = search rules in
    elsewhere c.args.change _ _ c.args.name.now c.args.end c.args.lines.now c.in_ok-move_end.field-0
    (rw c.requires.0 at c.in_ok-move_end.ensures.ran) other

pub returns-in_err-put_in-clause-ran : goal.returns-in_err-put_in-clause-ran
returns-in_err-put_in-clause-ran g c = ran_then _ _ _ c.in_ok-move_end.field-0 c.put_in.result
    c.from_residual-in_err-put_in.result _ _ _ c.in_ok-move_end.ensures.ran c.put_in.ensures.ran
    (λ _ _. if_failed _ _ c.from_residual-in_err-put_in.ensures.0)

pub returns-clause-ran : goal.returns-clause-ran
returns-clause-ran g c =
    let one : c.in_ok-move_end.field-0 ≡ 1 = search rules in
    both c.args.change _ _ c.args.name.now c.args.end c.args.lines.now c.in_ok-move_end.field-0
    (rw c.requires.0 at c.in_ok-move_end.ensures.ran) _ one c.in_ok-put_in.field-0
    (rw c.requires.0 at c.in_ok-put_in.ensures.ran)
