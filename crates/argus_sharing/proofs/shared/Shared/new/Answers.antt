-- Each looker has seen the effects of the journal so far.
use Rattle.std.proofs.Common.{◌∙◌}
use Rattle.argus_sharing.proofs.shared.Shared.new.Goals as goal

pub returns-clause-lookers : goal.returns-clause-lookers
returns-clause-lookers g c =
    let all = c.in-Ok-lookers_at.ensures.lookers in
    ((λ k d lt. all.0 k d lt ∙ c.requires.starts.2), all.1)
