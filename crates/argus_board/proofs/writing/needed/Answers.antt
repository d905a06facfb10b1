-- One pair more: so many objects as the greatest number so far asks for.
use Rattle.std.proofs.Common.{ap, sym, max, ◌+◌, ◌∙◌}
use Rattle.argus_board.proofs.Contents.{larger_is, needed_more}
use Rattle.argus_board.proofs.writing.needed.Goals as goal

pub loop-pair-preserved : goal.loop-pair-preserved
loop-pair-preserved c =
    let pair = c.pair-item.result in
    c.max-count.ensures ∙ larger_is c.loop-pair.count (pair.0.0 + 1)
    ∙ ap (λ n. max n (pair.0.0 + 1)) c.loop-pair.invariant
    ∙ sym (needed_more c.args.effect.now c.loop-pair.pair-index pair pair c.loop-pair-test.true c.pair-item.is)
