-- Absent contents were added, as many as were missing.
use Rattle.std.proofs.Common.{arith, ap, ◌∙◌, List, replicate, None, ◌++◌, Option}
use Rattle.argus_contents.specs.declared.content.Content.{Content}
use Rattle.argus_board.proofs.Contents.{pad_is}
use Rattle.argus_board.proofs.writing.pad.Goals as goal

pub returns-clause-ok : goal.returns-clause-ok
returns-clause-ok c =
    let k = c.loop-more._more in
    pad_is c.args.contents.now.items c.loop-more.contents.items c.args.count k
    (c.loop-more.invariant.0 ∙ ap (λ (xs : List (Option Content)). xs ++ replicate k None) c.reserve.ensures.items)
    (omega (arith, c.loop-more-test.false, c.loop-more.auto._more-end, c.saturating_sub-missing.ensures, c.len.ensures))
