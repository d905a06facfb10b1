-- An item is found at the place of its index.
use Rattle.std.proofs.{lemmas.Grind.common_steps, Common.{◌≡◌, length, arith, w64}, lemmas.Int.to_z-of_z}
use mir.Val.{SFits}
use Rattle.argus_contents.proofs.Places.{item-at-place}
use Rattle.argus_contents.proofs.asking.fetch.Goals as goal

pub returns-in-Some : goal.returns-in-Some
returns-in-Some c =
    let vs = c.args.items.now.items in
    let low_fits : SFits w64 c.args.low = c.ranges.low in
    let index_fits : SFits w64 c.args.index = c.ranges.index in
    let size : c.len.result ≡ length vs = omega arith in
    let place = rw size at (simp to_z-of_z at c.in-Some.ensures) in
    rw (item-at-place vs c.args.low c.args.index c.in-Some.place place, ← c.item_at.ensures) c.value_or_signal.ensures

pub returns-in-None : goal.returns-in-None
returns-in-None c = grind (arith, common_steps)
