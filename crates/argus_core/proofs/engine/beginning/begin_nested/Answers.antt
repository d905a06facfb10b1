-- The tree refuses a nested topaction as the journal does, or begins it with the number that the journal answers.
use Rattle.std.proofs.Common.{sym, ◌∙◌}
use Rattle.argus_core.proofs.OfState.{begin_free, begin_kept, begin_refused, begin_right, begins_nested}
use Rattle.argus_core.proofs.engine.beginning.begin_nested.Goals as goal

pub refuse-requires-clause-right : goal.refuse-requires-clause-right
refuse-requires-clause-right c =
    rw c.refusal_of.ensures (begin_refused c.args.state.now c.requires (begins_nested c.args.creator.0) c.in-Some.why
    (sym c.begin_nested_refusal.ensures ∙ c.in-Some.is))

pub begin_nested_reserved-a-requires-clause-accepted : goal.begin_nested_reserved-a-requires-clause-accepted
begin_nested_reserved-a-requires-clause-accepted c =
    let new = c.reserve_begin in
    begin_free new.new.state new.ensures.kept c.args.state.now c.requires new.ensures.journal
    (begins_nested c.args.creator.0) (sym c.begin_nested_refusal.ensures ∙ c.in-None.is)

pub push-requires-clause-answered : goal.push-requires-clause-answered
push-requires-clause-answered c =
    let new = c.reserve_begin in
    begin_right new.new.state new.ensures.kept c.args.state.now c.requires new.ensures.journal
    (begins_nested c.args.creator.0)
    (sym c.begin_nested_refusal.ensures ∙ c.in-None.is) _ c.begin_nested_reserved-a.ensures.number

pub returns-clause-kept : goal.returns-clause-kept
returns-clause-kept c =
    let new = c.reserve_begin in
    rw (c.push.ensures.entries, c.push.ensures.opening)
    (begin_kept new.new.state new.ensures.kept c.args.state.now c.requires new.ensures.journal
    (begins_nested c.args.creator.0)
    (sym c.begin_nested_refusal.ensures
    ∙ c.in-None.is) _ c.begin_nested_reserved-a.ensures.number _ c.begin_nested_reserved-a.ensures.tree)
