-- A text may be cut behind an ASCII byte.
use Rattle.std.proofs.{Common.{length, get_or, sym, ap, ◌∙◌, arith}, lemmas.Str.IsCharBoundary-after_ascii}
use Rattle.argus_texts.proofs.scan.split_ascii.Goals as goal

pub range_from-requires : goal.range_from-requires
range_from-requires c = λ h. let e = sym c.as_bytes.ensures.value ∙ c.in-Some.ensures.cases.0 in
    IsCharBoundary-after_ascii c.args.text.now 0 c.utf8.text (omega (arith, ap length e))
    (omega (arith, ap (λ x. get_or x 0 0) e, c.if-first-ge128.false))
