-- The low bound that is put back is the one that the change left.
use Rattle.std.proofs.{Common.{Some, w64}, lemmas.Int.to_z-of_z}
use mir.Val.{SFits}
use Rattle.argus_contents.specs.{Answer.done_or, Change.{plain_change, array_outcome}, Content.{arr, KeepsLimits}}
use Rattle.argus_contents.specs.Value.{plain_list}
use Rattle.argus_contents.proofs.{Kept.array_keeps, Refit.{refit, bound_fits}}
use Rattle.argus_contents.proofs.altering.alter_present.Goals as goal

pub returns-in-Arr-clause-ok : goal.returns-in-Arr-clause-ok
returns-in-Arr-clause-ok c =
    let low = c.in-Arr.low in
    let vs = plain_list c.in-Arr.items.items in
    let change = plain_change c.args.change.now in
    let within : KeepsLimits (Some (arr low vs)) = rw c.in-Arr.is at c.requires.limits in
    let before : SFits w64 low = bound_fits low vs within in
    rw (c.put_low.ensures, c.in-Arr.is)
    (refit done_or c.alter_array-answer.result c.alter_array-answer.new.low
    (plain_list c.alter_array-answer.new.items.items) (array_outcome change low vs) (array_keeps change low vs within)
    (rw (to_z-of_z w64 low before) at c.alter_array-answer.ensures.ok))
