-- The action is taken out of its place behind the front, and isn't the only one.
use Rattle.std.proofs.Common.{◌≡◌, ◌+◌, ◌-◌, ◌<◌, ◌≤◌, length, vec_len, sym, ◌∙◌, ap, subst, arith}
use Rattle.std.proofs.lemmas.{List.length-drop, Grind.common_steps}
use Rattle.argus_actions.specs.declared.action_id.ActionId.{ActionId}
use Rattle.argus_objects.{specs.Readers.{ReaderList, StandsAt}, proofs.{Moved.taken_between, Parted.not_newest}}
use Rattle.argus_objects.proofs.readers.Readers.take_out.Goals as goal

pub invariant_of-self : goal.invariant_of-self
invariant_of-self c =
    let a = c.args.a in
    let xs = c.self.inside.list.items in
    let front = c.self.inside.front in
    let place = c.in-Ok.place in
    let none : ActionId = record { 0 = 0 } in
    let stands : StandsAt a c.args.self.now.items place =
    subst (λ zs. StandsAt a zs place) c.as_slice.ensures c.in-Ok.ensures.found in
    let more : place + 1 < length c.args.self.now.items =
    not_newest a c.args.self.now.items place none stands (c.requires.older none) in
    let long : length c.args.self.now.items ≡ length xs - front =
    ap (λ (r : ReaderList). length r.items) (sym c.self.view_is) ∙ length-drop front xs in
    let held : front + 1 ≤ vec_len c.remove_below.new.list - 1 =
    omega (arith, more, long, c.remove_below.ensures.len, c.self.inside.list.ok) in
    held

pub returns-else-place-len-clause-items : goal.returns-else-place-len-clause-items
returns-else-place-len-clause-items c = grind (arith, common_steps, length-drop, taken_between)
