-- The objects that a live action has written, sorted, are its effect; an action that isn't live has none.
use Rattle.std.proofs.Common.{Some, ap, false, sym, ◌∙◌}
use Rattle.argus_core.proofs.Effects.{any_object, effect_where, found_effect, found_there}
use Rattle.argus_core.proofs.effect.effect_in.Goals as goal

pub returns-then-not-is_live : goal.returns-then-not-is_live
returns-then-not-is_live c = sym (effect_where c.args.state.now c.requires c.args.a false c.if-not-is_live.ensures)

pub contents_of-requires : goal.contents_of-requires
contents_of-requires c =
    rw (c.as_slice.ensures.value, c.as_slice-objects.ensures.value)
    (found_there c.args.state.now c.requires c.args.a c.if-not-is_live.ensures
    (rw (c.of.ensures.list) at c.of.ensures.once) _ _
    (rw (c.of.ensures.list, c.as_slice-objects.ensures.value) at c.in_ok-numbers.ensures any_object)
    c.sort.ensures.permutation c.in_ok-sort.ensures.sorted)

pub returns : goal.returns
returns c =
    ap Some (rw (c.as_slice.ensures.value, c.as_slice-objects.ensures.value) at c.in_ok-effect.ensures any_object)
    ∙ found_effect c.args.state.now c.requires c.args.a c.if-not-is_live.ensures
    (rw (c.of.ensures.list) at c.of.ensures.once) _ _
    (rw (c.of.ensures.list, c.as_slice-objects.ensures.value) at c.in_ok-numbers.ensures any_object)
    c.sort.ensures.permutation c.in_ok-sort.ensures.sorted
