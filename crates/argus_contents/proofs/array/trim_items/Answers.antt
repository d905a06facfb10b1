-- What a trim leaves where it is made.
use Rattle.std.proofs.{lemmas.Grind.common_steps, Common.{◌≡◌, length, arith, rules, w64, None, Some, ap, sym}}
use Rattle.std.proofs.{lemmas.List.length-map, lemmas.Int.to_z-of_z}
use mir.Val.{SFits}
use Rattle.argus_contents.specs.{Value.plain_value, Answer.done, Change.trim_refusal, Content.arr}
use Rattle.argus_contents.proofs.Arrays.{kept_items}
use Rattle.argus_contents.proofs.array.trim_items.Goals as goal

pub returns : goal.returns
returns c =
    let low = c.args.low.now in
    let from = c.args.from in
    let count = c.args.count in
    let from_fits : SFits w64 from = c.ranges.from in
    let count_fits : SFits w64 count = c.ranges.count in
    let low_fits : SFits w64 low = search rules in
    let size : c.len.result ≡ length c.args.items.now.items = omega arith in
    let may : trim_refusal from count low (length c.args.items.now.items) ≡ None =
    sym (rw size at (simp to_z-of_z at c.in_default.ensures)) in
    let count_is = simp to_z-of_z at c.unsigned_abs.ensures.value in
    let place_is = simp to_z-of_z at c.abs_diff.ensures in
    rw (length-map c.args.items.now.items plain_value, may, to_z-of_z w64 from from_fits)
    (ap (λ xs. (Some (arr from xs), done)) (kept_items c.args.items.now.items _ _ _ _ _ _ place_is c.drop_first.ensures
    count_is c.truncate.ensures.items))

pub trim_refusal-requires : goal.trim_refusal-requires
trim_refusal-requires c = search rules

pub returns-in-Some : goal.returns-in-Some
returns-in-Some c = grind (arith, common_steps)

pub drop_first-requires : goal.drop_first-requires
drop_first-requires c = search rules
