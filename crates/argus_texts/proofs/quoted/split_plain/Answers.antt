-- One more byte that is written as it is.
use Rattle.std.proofs.{lemmas.Grind.common_steps, Common.{◌≡◌, ◌<◌, ◌∷◌, [], length, get_or, subst, arith, rules}}
use Rattle.argus_texts.specs.Spelling.{escape}
use Rattle.argus_texts.proofs.Quotes.{plain_step}
use Rattle.argus_texts.proofs.quoted.split_plain.Goals as goal

pub loop-at-preserved : goal.loop-at-preserved
loop-at-preserved c =
    let t = c.args.text.now in
    let e = c.as_bytes-bytes.ensures.value in
    let h : c.loop-at.at < length t = subst (λ x. c.loop-at.at < length x) e c.loop-at-test.true in
    let p : escape (get_or t c.loop-at.at 0) ≡ get_or t c.loop-at.at 0 ∷ [] =
    subst (λ x. escape (get_or x c.loop-at.at 0) ≡ get_or x c.loop-at.at 0 ∷ []) e
    (c.is_special.ensures.no c.if-is_special.false) in
    record { within = omega arith; plain = plain_step t c.loop-at.at h c.loop-at.invariant.plain p }

pub loop-at-init : goal.loop-at-init
loop-at-init c = search rules

pub bounds-bytes-at : goal.bounds-bytes-at
bounds-bytes-at c = search rules

pub range-requires-clause-start_le_end : goal.range-requires-clause-start_le_end
range-requires-clause-start_le_end c = search rules

pub range-requires-clause-start_boundary : goal.range-requires-clause-start_boundary
range-requires-clause-start_boundary c = search rules

pub range-requires-clause-end_boundary : goal.range-requires-clause-end_boundary
range-requires-clause-end_boundary c = search rules

pub range_from-requires : goal.range_from-requires
range_from-requires c = search rules

pub returns-then-is_special-clause-whole : goal.returns-then-is_special-clause-whole
returns-then-is_special-clause-whole c = grind (arith, common_steps)

pub returns-then-is_special-clause-plain : goal.returns-then-is_special-clause-plain
returns-then-is_special-clause-plain c = search rules

pub returns-then-is_special-clause-special : goal.returns-then-is_special-clause-special
returns-then-is_special-clause-special c = grind (arith, common_steps)

pub returns-then-is_special-clause-utf8 : goal.returns-then-is_special-clause-utf8
returns-then-is_special-clause-utf8 c = search rules

pub overflow_add-at : goal.overflow_add-at
overflow_add-at c = search rules

pub loop-at-smaller : goal.loop-at-smaller
loop-at-smaller c = search rules

pub returns-clause-whole : goal.returns-clause-whole
returns-clause-whole c = search rules

pub returns-clause-plain : goal.returns-clause-plain
returns-clause-plain c = grind (arith, common_steps)

pub returns-clause-utf8 : goal.returns-clause-utf8
returns-clause-utf8 c = search rules
