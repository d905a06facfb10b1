-- The tree's word is the journal's.
use Rattle.std.proofs.Common.{◌∙◌}
use Rattle.argus_core.proofs.StatusTold.{status_told}
use Rattle.argus_core.proofs.guardian.Guardian.status.Goals as goal

pub returns : goal.returns
returns c = rw (← c.self.view_is) (c.status.ensures ∙ status_told c.self.inside.state c.self.invariant c.args.a.0)
