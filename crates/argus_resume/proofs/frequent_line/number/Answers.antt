-- A number grows by its digits.
use Rattle.std.proofs.Common.{List, ap, arith, ◌*◌, ◌+◌, ◌++◌, ◌<◌, ◌^◌, ◌∙◌, ◌∷◌, ◌≡◌, ◌≤◌, ℕ}
use Rattle.std.specs.Fmt.{decimal}
use Rattle.argus_texts.proofs.Digits.{grown_step, one_digit}
use Rattle.argus_resume.proofs.frequent_line.number.Goals as goal

first : (n m : ℕ) (text others : List ℕ) → n ≤ 9 → text ≡ (48 + n) ∷ others → m ≡ n → text ≡ decimal m ++ others
first n m text others h e s = e ∙ one_digit (48 + n) m others (omega arith) (omega (arith, h)) (omega (arith, s))

one_more : (n d more : ℕ) (text rest others : List ℕ) → 0 < n → d ≤ 9 → more < 2 ^ 64 → more ≡ n * 10 + d
    → text ≡ decimal n ++ rest → rest ≡ (48 + d) ∷ others → text ≡ decimal more ++ others
one_more n d more text rest others p h w s e f = e ∙ ap (λ r. decimal n ++ r) f
    ∙ grown_step n (48 + d) more others p (omega (arith, s)) w (omega arith) (omega (arith, h))

pub loop-next-init : goal.loop-next-init
loop-next-init c = record {
  some = omega (arith, c.if-number-eq0.false);
  read = first c.in_ok-first.first c.from-number.result c.args.text.now c.in_ok-first.others.now
      c.in_ok-first.ensures.digit c.in_ok-first.ensures.read c.from-number.ensures;
}

pub loop-next-preserved : goal.loop-next-preserved
loop-next-preserved c =
    let grown = ap (λ d. c.loop-next.number * 10 + d) c.from.ensures in
    record {
      some = omega (arith, c.loop-next.invariant.some);
      read = one_more c.loop-next.number c.in-Some.next (c.loop-next.number * 10 + c.from.result) c.args.text.now
          c.loop-next.rest.now c.in-Some.others.now c.loop-next.invariant.some c.in-Some.ensures.digit
          (omega (arith, c.if-number-gt-MOST_BEFORE_A_DIGIT.false, c.in-Some.ensures.digit, c.from.ensures)) grown
          c.loop-next.invariant.read c.in-Some.ensures.read;
    }

pub returns-then-number-eq0 : goal.returns-then-number-eq0
returns-then-number-eq0 c = first c.in_ok-first.first c.from-number.result c.args.text.now c.in_ok-first.others.now
    c.in_ok-first.ensures.digit c.in_ok-first.ensures.read c.from-number.ensures
