-- An item that is written by a copy.
use Rattle.std.proofs.{Common.{◌≡◌, length, arith, w64}, lemmas.Int.to_z-of_z}
use mir.Val.{SFits}
use Rattle.argus_contents.proofs.Arrays.{stored}
use Rattle.argus_contents.proofs.altering.store_item.Goals as goal

pub returns-in_ok-put-in-Some-clause-ok : goal.returns-in_ok-put-in-Some-clause-ok
returns-in_ok-put-in-Some-clause-ok c =
    let vs = c.args.items.now.items in
    let low_fits : SFits w64 c.args.low = c.ranges.low in
    let index_fits : SFits w64 c.args.index = c.ranges.index in
    let size : c.len.result ≡ length vs = omega arith in
    rw (← c.in_ok-put-in-Some.ensures.ok)
    (stored vs c.args.low c.args.index c.in-Some.place c.put.new.place
    (rw size at (simp to_z-of_z at c.in-Some.ensures)))
