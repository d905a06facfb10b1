-- What a removal leaves keeps the limits.
use Rattle.std.proofs.Common.{ap, subst, sym}
use Rattle.argus_contents.specs.{Change.{Outcome, plain_change}, Content.{KeepsLimits, plain_option}}
use Rattle.argus_contents.proofs.Kept.{outcome_keeps}
use Rattle.argus_contents.proofs.altering.alter_in_place.Goals as goal

pub returns-then-gives_value-clause-kept : goal.returns-then-gives_value-clause-kept
returns-then-gives_value-clause-kept c = λ within.
    subst KeepsLimits (sym (ap (λ (p : Outcome). p.0) c.remove.ensures))
    (outcome_keeps (plain_change c.args.change.now) (plain_option c.args.content.now) within c.requires)
