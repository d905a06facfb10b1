-- The tree refuses a topaction as the journal does, or begins it with the number that the journal answers.
use Rattle.std.proofs.Common.{sym, ◌∙◌}
use Rattle.argus_core.proofs.OfState.{begin_kept, begin_refused, begin_right, begins_top}
use Rattle.argus_core.proofs.engine.beginning.begin_top.Goals as goal

pub refuse-requires-clause-right : goal.refuse-requires-clause-right
refuse-requires-clause-right c =
    rw c.refusal_of.ensures (begin_refused c.args.state.now c.requires begins_top c.in-Some.why
    (sym c.begin_top_refusal.ensures ∙ c.in-Some.is))

pub push-requires-clause-answered : goal.push-requires-clause-answered
push-requires-clause-answered c =
    let new = c.reserve_begin in
    begin_right new.new.state new.ensures.kept c.args.state.now c.requires new.ensures.journal begins_top
    (sym c.begin_top_refusal.ensures ∙ c.in-None.is) _ c.begin_top_reserved-a.ensures.number

pub returns-clause-kept : goal.returns-clause-kept
returns-clause-kept c =
    let new = c.reserve_begin in
    rw (c.push.ensures.entries, c.push.ensures.opening)
    (begin_kept new.new.state new.ensures.kept c.args.state.now c.requires new.ensures.journal begins_top
    (sym c.begin_top_refusal.ensures
    ∙ c.in-None.is) _ c.begin_top_reserved-a.ensures.number _ c.begin_top_reserved-a.ensures.tree)
