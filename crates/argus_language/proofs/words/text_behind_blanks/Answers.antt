-- A text may be cut behind a blank.
use Rattle.std.proofs.Common.{◌≡◌, zero-le, subst, sym, ap, ◌∙◌, arith, true, length, get_or}
use Rattle.std.proofs.lemmas.Str.{IsCharBoundary-after_ascii}
use Rattle.std.specs.Str.{IsUtf8}
use Rattle.argus_language.specs.Lines.{is_blank}
use Rattle.argus_language.proofs.Cutting.{blank_ascii}
use Rattle.argus_language.proofs.words.text_behind_blanks.Goals as goal

pub range_from-rest-requires : goal.range_from-rest-requires
range_from-rest-requires c = λ h. let here = c.in-Some.ensures.item in
    let same = c.as_bytes.ensures.value in
    IsCharBoundary-after_ascii c.loop-first.rest.now 0 (subst IsUtf8 same c.as_bytes.ensures.utf8)
    (omega (arith, ap length same, here.3.0))
    (blank_ascii _ (subst (λ b. is_blank b ≡ true) (here.4 zero-le 0 ∙ ap (λ x. get_or x 0 0) same)
    (sym c.may_part_words.ensures ∙ c.if-not-may_part_words.false)))
