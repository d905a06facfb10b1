use Rattle.argus_embed.proofs.Outcomes.{failed_here, failed_past}
use Rattle.argus_embed.proofs.outcome_writing.write_error.Goals as goal

pub returns-then-at-calls : goal.returns-then-at-calls
returns-then-at-calls c =
    failed_here c.args.calls.now c.args.at _ c.args.error c.codes.result _ c.if-at-calls.true c.with_codes.ensures c.codes.ensures.codes

pub returns-else-at-calls : goal.returns-else-at-calls
returns-else-at-calls c = failed_past c.args.calls.now c.args.at c.args.error c.if-at-calls.false
