use Rattle.std.proofs.Common.{arith, suc, ◌-◌, ◌∙◌, ◌≡◌}
use Rattle.argus_embed.proofs.Listed.{begun_past, begun_there}
use Rattle.argus_embed.proofs.listed_reading.action_by.Goals as goal

pub returns-in-Some : goal.returns-in-Some
returns-in-Some c =
    let found = c.in-Some.ensures.lookup in
    let number : c.args.begun_by ≡ suc (c.args.begun_by - 1) = omega (arith, c.if-begun_by-eq0.false) in
    c.action_begun.ensures
    ∙ begun_there c.args.replies.now c.args.begun_by (c.args.begun_by - 1) c.args.action _ _ number found.3.0 found.1

pub returns-in-None : goal.returns-in-None
returns-in-None c =
    let number : c.args.begun_by ≡ suc (c.args.begun_by - 1) = omega (arith, c.if-begun_by-eq0.false) in
    begun_past c.args.replies.now c.args.begun_by (c.args.begun_by - 1) c.args.action number c.in-None.ensures.lookup.3
