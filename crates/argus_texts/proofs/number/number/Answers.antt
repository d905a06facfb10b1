-- Where a number stops.
use Rattle.std.proofs.Common.{◌++◌, length, ap, sym, ◌∙◌, subst, inl, inr, arith}
use Rattle.std.specs.Fmt.{decimal}
use Rattle.argus_texts.specs.{Language.{First, Stops}, Languages.Numbers}
use Rattle.argus_texts.proofs.Digits.{NoFirst, number_first_stops, number_digit_stops, one_digit, grown_step}
use Rattle.argus_texts.proofs.Digits.{ascii_no_first}
use Rattle.argus_texts.proofs.number.number.Goals as goal

pub returns-in_default-clause-stops : goal.returns-in_default-clause-stops
returns-in_default-clause-stops c =
    number_first_stops c.args.least c.args.most c.requires.0 c.requires.1 (omega (arith, c.ranges.most)) c.args.text.now
    (ascii_no_first c.args.least c.args.text.now c.in_default.ensures.none)

pub returns-then-first-least-clause-stops : goal.returns-then-first-least-clause-stops
returns-then-first-least-clause-stops c =
    number_first_stops c.args.least c.args.most c.requires.0 c.requires.1 (omega (arith, c.ranges.most)) c.args.text.now
    (subst (First (NoFirst c.args.least)) (sym c.in-Some.ensures.some.0) (inl c.if-first-least.true))

pub returns-then-first-gt57-clause-stops : goal.returns-then-first-gt57-clause-stops
returns-then-first-gt57-clause-stops c =
    number_first_stops c.args.least c.args.most c.requires.0 c.requires.1 (omega (arith, c.ranges.most)) c.args.text.now
    (subst (First (NoFirst c.args.least)) (sym c.in-Some.ensures.some.0) (inr c.if-first-gt57.true))

pub loop-next-init : goal.loop-next-init
loop-next-init c =
    let e = c.in-Some.ensures.some.0 in
    record {
      least = omega (arith, c.if-first-least.false, c.from-number.ensures, c.requires.0);
      most = omega (arith, c.if-first-gt57.false, c.from-number.ensures, c.requires.1);
      read = e ∙ one_digit c.in-Some.first c.from-number.result c.in-Some.others.now
          (omega (arith, c.if-first-least.false)) c.if-first-gt57.false c.from-number.ensures;
      utf8 = c.in-Some.ensures.utf8;
    }

pub returns-in_default-with_digit-clause-stops : goal.returns-in_default-with_digit-clause-stops
returns-in_default-with_digit-clause-stops c =
    let e = c.in-Some-split_ascii.ensures.some.0 in
    subst (λ r. Stops (Numbers c.args.least c.args.most) c.args.text.now (length r)) (sym e)
    (number_digit_stops c.args.least c.args.most c.loop-next.number c.in-Some-split_ascii.next c.args.text.now
    c.in-Some-split_ascii.others.now (omega (arith, c.ranges.most))
    c.loop-next.invariant.least c.loop-next.invariant.most
    (c.loop-next.invariant.read ∙ ap (λ r. decimal c.loop-next.number ++ r) e)
    c.if-next-lt48.false c.if-next-gt57.false c.in_default-with_digit.ensures.none)

pub loop-next-preserved : goal.loop-next-preserved
loop-next-preserved c =
    let h = c.in-Some-with_digit.ensures.some in
    let e = c.in-Some-split_ascii.ensures.some.0 in
    record {
      least = omega (arith, h.0, h.1, h.2, c.requires.0, c.loop-next.invariant.least);
      most = h.2;
      read = c.loop-next.invariant.read ∙ ap (λ r. decimal c.loop-next.number ++ r) e
          ∙ grown_step c.loop-next.number c.in-Some-split_ascii.next c.in-Some-with_digit.more
          c.in-Some-split_ascii.others.now h.0 h.1 (omega (arith, h.2, c.ranges.most))
          c.if-next-lt48.false c.if-next-gt57.false;
      utf8 = c.in-Some-split_ascii.ensures.utf8;
    }
