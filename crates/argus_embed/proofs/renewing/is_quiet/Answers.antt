use Rattle.argus_embed.proofs.Quiet.{quiet_if}
use Rattle.argus_embed.proofs.renewing.is_quiet.Goals as goal

pub returns : goal.returns
returns c = quiet_if c.args.guardian.now _ _ c.is_none.ensures c.live.ensures.live c.live.ensures.none
