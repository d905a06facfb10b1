-- What is left where the change was made keeps the limits.
use Rattle.std.proofs.Common.{Some}
use Rattle.argus_contents.specs.{Answer.done_or, Change.plain_change, Content.{KeepsLimits, plain_content}}
use Rattle.argus_contents.proofs.Refit.{changed_keeps}
use Rattle.argus_contents.proofs.altering.alter_by_reference.Goals as goal

pub returns-in-Some-clause-kept : goal.returns-in-Some-clause-kept
returns-in-Some-clause-kept c =
    let before : KeepsLimits (Some (plain_content c.in-Some.present)) = rw c.in-Some.is at c.requires.limits in
    changed_keeps done_or c.alter_present.result (plain_change c.args.change.now) (plain_content c.in-Some.present)
    (plain_content c.alter_present.new.content) before c.alter_present.ensures.ok c.alter_present.ensures.err
