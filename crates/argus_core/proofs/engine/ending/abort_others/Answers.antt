-- The tree refuses an abort of all live siblings as the journal does, or all that they hold is discarded.
use Rattle.std.proofs.{Common.{arith, sym, ◌∙◌}, lemmas.{List.with_items_is, Grind.common_steps}}
use Rattle.argus_core.proofs.{Ends.kept_others, OfState.{aborts_others, can_sweep, end_refused, end_right}}
use Rattle.argus_core.proofs.engine.ending.abort_others.Goals as goal

pub refuse-requires-clause-right : goal.refuse-requires-clause-right
refuse-requires-clause-right c =
    rw c.refusal_of.ensures (end_refused c.args.state.now (aborts_others c.args.state.now c.requires c.args.a)
    c.in-Some.why (sym c.abort_others_refusal.ensures ∙ c.in-Some.is))

pub discard_others-requires-clause-ready : goal.discard_others-requires-clause-ready
discard_others-requires-clause-ready c =
    rw (c.as_mut_slice.ensures.value) (can_sweep c.args.state.now c.requires c.rows_are_sound.ensures.linked)

pub push-requires-clause-answered : goal.push-requires-clause-answered
push-requires-clause-answered c = grind (arith, common_steps, end_right, aborts_others)

pub returns-clause-kept : goal.returns-clause-kept
returns-clause-kept c =
    rw (with_items_is c.args.state.now.objects c.discard_others.new.objects (omega arith), c.push.ensures.entries)
    (rw (c.push.ensures.opening, c.reserve.ensures.entries)
    (rw (c.reserve.ensures.opening)
    (kept_others _ _ _ _ _ _ _ _ c.args.a c.requires (sym c.abort_others_refusal.ensures
    ∙ c.in-None.is) c.abort_others_ready.ensures
    (rw (c.as_mut_slice.ensures.value) at c.discard_others.ensures))))
