-- A struct or a oneof is within a depth where its types are within one level less.
use Rattle.std.proofs.Common.{◌∙◌}
use Rattle.argus_contents.proofs.{Levels.{plain_ty-Fields, plain_ty-Choice}, Types.deeper}
use Rattle.argus_contents.proofs.shaping.+within.Goals as goal

pub is_within-returns-in-Fields-clause-depth : goal.is_within-returns-in-Fields-clause-depth
is_within-returns-in-Fields-clause-depth t c =
    rw (c.in-Fields.is, plain_ty-Fields c.in-Fields.fields, ← c.deref-in-Fields.ensures.value)
    (c.are_within.ensures.depth ∙ deeper _ c.args.levels c.if-levels-eq0.false)

pub is_within-returns-in-Choice-clause-depth : goal.is_within-returns-in-Choice-clause-depth
is_within-returns-in-Choice-clause-depth t c =
    rw (c.in-Choice.is, plain_ty-Choice c.in-Choice.tags, ← c.deref-in-Choice.ensures.value)
    (c.are_within-in-Choice.ensures.depth ∙ deeper _ c.args.levels c.if-levels-eq0.false)
