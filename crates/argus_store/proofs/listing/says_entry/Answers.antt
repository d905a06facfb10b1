use Rattle.std.proofs.Common.{◌≡◌, ◌∙◌, ◌++◌, ◌↔◌, IsTrue, false, List, ℕ, ap, codes, decimal, subst, sym}
use Rattle.argus_store.proofs.Chains.{at_some, at_none, tells}
use Rattle.argus_store.proofs.listing.says_entry.Goals as goal

pub returns : goal.returns
returns c =
    let end = c.in-Some-behind.end.now in
    let digits : c.as_bytes.result.now ≡ decimal c.args.entry = c.as_bytes.ensures.value ∙ c.format.ensures.text in
    at_some (codes "opening entries ") c.args.line.now c.in-Some.number.now
    (λ rest. decimal c.args.entry ++ (codes " " ++ rest)) c.is_some.result c.in-Some.ensures
    (at_some (decimal c.args.entry) c.in-Some.number.now end (λ rest. codes " " ++ rest) c.is_some.result
    (c.in-Some-behind.ensures ∙ ap (λ p. p ++ end) digits)
    (subst (λ b. IsTrue b ↔ ((rest : List ℕ) × (end ≡ codes " " ++ rest))) (sym c.is_some.ensures)
    (tells (codes " ") end c.behind-3.result c.behind-3.ensures)))

pub returns-in_default : goal.returns-in_default
returns-in_default c = at_none (codes "opening entries ") c.args.line.now
    (λ rest. decimal c.args.entry ++ (codes " " ++ rest)) c.in_default.ensures

pub returns-in_default-behind : goal.returns-in_default-behind
returns-in_default-behind c =
    let digits : c.as_bytes.result.now ≡ decimal c.args.entry = c.as_bytes.ensures.value ∙ c.format.ensures.text in
    at_some (codes "opening entries ") c.args.line.now c.in-Some.number.now
    (λ rest. decimal c.args.entry ++ (codes " " ++ rest)) false c.in-Some.ensures
    (at_none (decimal c.args.entry) c.in-Some.number.now (λ rest. codes " " ++ rest)
    (λ rest is. c.in_default-behind.ensures rest (is ∙ ap (λ p. p ++ rest) (sym digits))))
