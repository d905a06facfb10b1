use Rattle.std.proofs.{Common.{ap, arith, ◌∙◌}, lemmas.List.length-set}
use Rattle.argus_embed.specs.Embedded.{outcome_of}
use Rattle.argus_journal.specs.Reply.{plain_reply}
use Rattle.argus_embed.proofs.Outcomes.{outcome_here}
use Rattle.argus_embed.proofs.outcome_writing.write_outcomes.Goals as goal

pub loop-at-preserved : goal.loop-at-preserved
loop-at-preserved c =
    let inv = c.loop-at.invariant in
    let last = c.outcome_of.ensures ∙ ap (λ x. outcome_of (plain_reply x)) c.index-replies-at.is in (
      outcome_here c.args.calls.now c.loop-at.calls c.args.replies.now c.loop-at.at _ _ c.outcome_of.result c.codes.result _
          inv.0 (omega (arith, c.loop-at-test.true, c.requires)) c.loop-at-test.true c.with_codes.ensures
          c.codes.ensures.codes last,
      length-set c.loop-at.calls c.loop-at.at c.with_codes.result ∙ inv.1,
    )
