-- The text leaves the word.
use Rattle.std.proofs.{lemmas.Grind.common_steps, Common.{◌<◌, length, get_or, subst, sym, ap, arith, rules}}
use Rattle.argus_texts.specs.Language.{IsNot}
use Rattle.argus_texts.proofs.{Lists.{ascii_at, no_ascii_not}, Stops.word_stops}
use Rattle.argus_texts.proofs.scan.word.Goals as goal

pub returns-in_default-clause-stops : goal.returns-in_default-clause-stops
returns-in_default-clause-stops c =
    let h = subst (λ w. c.loop-byte.byte-index < length w) c.as_bytes-byte-items.ensures.value c.loop-byte-test.true in
    word_stops c.args.word.now c.args.text.now c.loop-byte.rest.now c.loop-byte.byte-index h c.loop-byte.invariant.read
    (no_ascii_not (get_or c.args.word.now c.loop-byte.byte-index 0) c.loop-byte.rest.now
    (ascii_at c.args.word.now c.loop-byte.byte-index c.requires h) c.in_default.ensures.none)

pub returns-then-first-byte-clause-stops : goal.returns-then-first-byte-clause-stops
returns-then-first-byte-clause-stops c =
    let w = c.as_bytes-byte-items.ensures.value in
    let h = subst (λ w. c.loop-byte.byte-index < length w) w c.loop-byte-test.true in
    word_stops c.args.word.now c.args.text.now c.loop-byte.rest.now c.loop-byte.byte-index h c.loop-byte.invariant.read
    (subst (λ b. IsNot b c.loop-byte.rest.now) (ap (λ v. get_or v c.loop-byte.byte-index 0) w)
    (subst (IsNot _) (sym c.in-Some.ensures.some.0) c.if-first-byte.true))

pub loop-byte-init : goal.loop-byte-init
loop-byte-init c = search rules

pub split_ascii-requires-text-text : goal.split_ascii-requires-text-text
split_ascii-requires-text-text c = search rules

pub loop-byte-preserved : goal.loop-byte-preserved
loop-byte-preserved c = grind (arith, common_steps)

pub fact_in-rest : goal.fact_in-rest
fact_in-rest c = search rules

pub returns-clause-read : goal.returns-clause-read
returns-clause-read c = grind (arith, common_steps)
